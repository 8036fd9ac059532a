-- What the next entry of a site comes to in the replay. An operation that only waits is known by its dot and its
-- dependencies alone; one that is used must have been made by the replay of its own site.
use Rattle.std.specs.Prelude.{List, ℕ, Bool, true, false, not, ◌||◌, length, Option, Some, None, if◌then◌else◌, ◌==◌}
use Rattle.std.specs.List.{find}
use Rattle.td_base.specs.Value.{DotValue}
use Rattle.td_base.specs.Equality.{same_dot}
use Rattle.td_path.specs.declared.slot.Slot.TheVariants.{Root}
use Rattle.td_op.specs.declared.body.Body.TheVariants.{Propose}
use Rattle.td_op.specs.declared.input.Input.TheVariants.{Local, Take, Next}
use Rattle.td_op.specs.declared.message.Message.TheVariants.{Op, Vote as AVote}
use Rattle.td_op.specs.declared.reply.Reply.{Reply}
use Rattle.td_op.specs.declared.reply.Reply.TheVariants.{Taken, Idle}
use Rattle.td_op.specs.Op.{OpValue}
use Rattle.td_machine.specs.Machine.{Machine, start}
use Rattle.td_machine.specs.Ready.{is_dot_of, next_ready}
use Rattle.td_machine.specs.Taking.{Stepped, stepped, misfit, forget, waited}
use Rattle.td_machine.specs.Step.{step}
use Rattle.td_trace.specs.declared.entry.TraceEntry.{TraceEntry}
use Rattle.td_trace.specs.declared.told_input.ToldInput.{ToldInput}
use Rattle.td_trace.specs.declared.told_input.ToldInput.TheVariants.{Asked, TookOp, TookVote, Went}
use Rattle.td_law_replay.specs.Traced.{site_entries}
use Rattle.td_law_replay.specs.Replies.{is_new, taken_of}
use Rattle.td_law_replay.specs.Counting.{made_deps}

-- what stands for an operation of which the dot and the dependencies are known: its body is any
abbrev pub outline : DotValue → List ℕ → OpValue
outline d deps = record { dot = d; deps = deps; body = Propose Root }

abbrev pub outline_of : OpValue → OpValue
outline_of x = outline x.dot x.deps

-- how far a site is
pub record SiteState : Type 0 where
  -- its machine, in which outlines wait
  pub machine : Machine
  -- the entries that are still to be done
  pub left : List TraceEntry

-- that of each site, from 1
abbrev pub States : Type 0
States = ℕ → SiteState

abbrev pub begin : List (List TraceEntry) → States
begin all site = record { machine = start site (length all); left = site_entries all site }

-- the operation with this dot, where its site has made it by now
abbrev pub made_op : States → DotValue → Option OpValue
made_op states d = find (is_dot_of d) (states d.site).machine.log

pub data Judgement : Type 0 where
  -- it names what no site can have sent here
  Lost : Judgement
  -- it uses an operation that is not yet made
  Waits : Judgement
  -- the machine steps
  Steps : Stepped → Judgement

-- the operation is used, where it is made
abbrev pub use_of : Option OpValue → (OpValue → Stepped) → Judgement
use_of None s = Waits
use_of (Some x) s = Steps (s x)

-- an operation is offered: of the machine's answers only New needs more of it than its outline
abbrev pub judge_offer : Option (List ℕ) → Option OpValue → Bool → DotValue → Machine → Judgement
judge_offer None real new d m = Lost
judge_offer (Some deps) real true d m = use_of real (λ (x : OpValue). step m (Take (Op x)))
judge_offer (Some deps) real false d m = Steps (step m (Take (Op (outline d deps))))

-- the least ready operation of those that wait is taken, and it must be the outline of this one
abbrev pub take_waiting_as : Option OpValue → OpValue → Machine → Stepped
take_waiting_as None x m = stepped Idle m
take_waiting_as (Some y) x m =
    if same_dot y.dot x.dot then waited (misfit x m) x (forget x m) else stepped (Taken y.dot) m

abbrev pub take_waiting : OpValue → Machine → Stepped
take_waiting x m = take_waiting_as (next_ready m.have m.waiting) x m

-- the operation that is said to have waited is used
abbrev pub judge_taken : Option (List ℕ) → Option OpValue → Machine → Judgement
judge_taken None real m = Lost
judge_taken (Some deps) real m = use_of real (λ (x : OpValue). take_waiting x m)

-- of what waits the next is to be taken: the operation that the reply names, where it names one
abbrev pub judge_next : Option DotValue → List (List TraceEntry) → States → ℕ → Machine → Judgement
judge_next None all states site m = Steps (step m Next)
judge_next (Some d) all states site m =
    if d.site == site then Lost else judge_taken (made_deps all d) (made_op states d) m

-- the entry of a site with this machine, where the sites are in these states. Whoever voted is not asked here: a vote
-- stands whole in its entry, and whether it was sent is looked up at the end
abbrev pub judge : List (List TraceEntry) → States → ℕ → Machine → ToldInput → Reply → Judgement
judge all states site m (Asked request) reply = Steps (step m (Local request))
judge all states site m (TookOp d) reply =
    if d.site == site then Lost else judge_offer (made_deps all d) (made_op states d) (is_new reply) d m
judge all states site m (TookVote v) reply =
    if v.voter == site || not (v.proposal.site == site) then Lost else Steps (step m (Take (AVote v)))
judge all states site m Went reply = judge_next (taken_of reply) all states site m
