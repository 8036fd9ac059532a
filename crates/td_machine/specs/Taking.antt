-- What a machine answers to a message, and what it does with it.
use Rattle.std.specs.Prelude.{ℕ, Bool, ◌||◌, not, nat_lt, length, Option, Some, None, if◌then◌else◌, ◌==◌}
use Rattle.std.specs.List.{find}
use Rattle.std.specs.Option.{is_some}
use Rattle.td_base.specs.Value.{DotValue}
use Rattle.td_clock.specs.Vector.{vector_get}
use Rattle.td_path.specs.declared.slot.Slot.{Slot}
use Rattle.td_op.specs.declared.body.Body.{Body}
use Rattle.td_op.specs.declared.body.Body.TheVariants.{Insert, Delete, Propose, Commit, Abort}
use Rattle.td_op.specs.declared.vote.Vote.{Vote}
use Rattle.td_op.specs.declared.message.Message.{Message}
use Rattle.td_op.specs.declared.message.Message.TheVariants.{Op as AnOp, Vote as AVote}
use Rattle.td_op.specs.declared.reply.Reply.{Reply}
use Rattle.td_op.specs.declared.reply.Reply.TheVariants.{New, Later, Repeat, Unfit, Taken, Dropped, Idle}
use Rattle.td_op.specs.declared.reply.Why.{Why}
use Rattle.td_op.specs.declared.reply.Why.TheVariants.{Size, Own, Atom, Proposal, Vote as NoHold, Address}
use Rattle.td_op.specs.Op.{OpValue}
use Rattle.td_doc.specs.Document.{find_row}
use Rattle.td_machine.specs.Ready.{is_had, is_ready, next_ready, waits, put_waiting, without}
use Rattle.td_machine.specs.Log.{proposed, commits, is_undecided_of}
use Rattle.td_machine.specs.Hold.{is_held}
use Rattle.td_machine.specs.Vote.{votes_yes}
use Rattle.td_doc.specs.Answers.{is_rooted}
use Rattle.td_machine.specs.Decision.{Ballot, is_on, is_counted, counted, outcome, revise}
use Rattle.td_machine.specs.Machine.{Machine, made}
use Rattle.td_machine.specs.Making.{done, send, decide, hold}

-- a reply, and the machine afterwards
pub record Stepped : Type 0 where
  pub reply : Reply
  pub machine : Machine

abbrev pub stepped : Reply → Machine → Stepped
stepped reply m = record { reply = reply; machine = m }

abbrev pub body_misfit : ℕ → Body → Machine → Option Why
body_misfit site (Insert slot run) m = if is_rooted m.doc slot then None else Some Atom
body_misfit site (Delete target) m = if is_some (find_row target m.doc) then None else Some Atom
body_misfit site (Propose slot) m = None
body_misfit site (Commit p) m =
    if is_undecided_of site p m.log then (if is_held p m.holds then None else Some NoHold) else Some Proposal
body_misfit site (Abort p) m = if is_undecided_of site p m.log then None else Some Proposal

-- why a ready operation can't be taken: the atom or the proposal that it names is not here
abbrev pub misfit : OpValue → Machine → Option Why
misfit x m = body_misfit x.dot.site x.body m

-- the vote on a proposal is sent, and a Yes holds the slot
abbrev pub answer : DotValue → Slot → Bool → Machine → Machine
answer p slot says m =
    send (AVote (record { proposal = p; voter = m.site; yes = says })) (if says then hold p slot m else m)

abbrev pub vote_on : OpValue → Slot → Machine → Bool
vote_on x slot m = votes_yes m.doc m.holds (commits m.log) slot x.deps

abbrev pub take_as : Option Slot → OpValue → Machine → Machine
take_as None x m = done x m
take_as (Some slot) x m = answer x.dot slot (vote_on x slot m) (done x m)

-- an operation of another site is done; a proposal is voted on, by what was known before it
abbrev pub take : OpValue → Machine → Machine
take x m = take_as (proposed x.body) x m

abbrev pub keep_waiting : OpValue → Machine → Machine
keep_waiting x m = record m { waiting = put_waiting x m.waiting }

abbrev pub fit_step : Option Why → OpValue → Machine → Stepped
fit_step (Some why) x m = stepped (Unfit why) m
fit_step None x m = stepped New (take x m)

-- an operation that is offered, judged in this order
abbrev pub op_step : OpValue → Machine → Stepped
op_step x m =
    if not (length x.deps == m.size) then stepped (Unfit Size) m
    else (if is_had m.have x || waits x.dot m.waiting then stepped Repeat m
    else (if x.dot.site == m.site || nat_lt (made m) (vector_get x.deps m.site) then stepped (Unfit Own) m
    else (if not (is_ready m.have x) then stepped Later (keep_waiting x m)
    else fit_step (misfit x m) x m)))

-- a vote is counted, and the decision that it brings is made
abbrev pub count : Vote → Ballot → Machine → Machine
count v b m =
    decide v.proposal (outcome m.size v.yes (counted v.voter v.yes b))
    (record m { ballots = revise v.proposal (counted v.voter v.yes) m.ballots })

abbrev pub ballot_step : Option Ballot → Vote → Machine → Stepped
ballot_step None v m = stepped (Unfit Proposal) m
ballot_step (Some b) v m = if is_counted v.voter b then stepped Repeat m else stepped New (count v b m)

-- a vote that is offered, judged in this order
abbrev pub vote_step : Vote → Machine → Stepped
vote_step v m =
    if nat_lt m.size v.voter || nat_lt m.size v.proposal.site then stepped (Unfit Size) m
    else (if not (v.proposal.site == m.site) then stepped (Unfit Address) m
    else ballot_step (find (is_on v.proposal) m.ballots) v m)

abbrev pub message_step : Message → Machine → Stepped
message_step (AnOp x) m = op_step x m
message_step (AVote v) m = vote_step v m

abbrev pub forget : OpValue → Machine → Machine
forget x m = record m { waiting = without x.dot m.waiting }

abbrev pub waited : Option Why → OpValue → Machine → Stepped
waited (Some why) x m = stepped (Dropped x.dot why) m
waited None x m = stepped (Taken x.dot) (take x m)

abbrev pub next_of : Option OpValue → Machine → Stepped
next_of None m = stepped Idle m
next_of (Some x) m = waited (misfit x m) x (forget x m)

-- the least ready operation of those that wait no longer waits, and is taken where it fits
abbrev pub next_step : Machine → Stepped
next_step m = next_of (next_ready m.have m.waiting) m
