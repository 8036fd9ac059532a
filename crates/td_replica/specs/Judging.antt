-- How what another site sends is judged, before anything is done.
use Rattle.std.specs.Prelude.{◌≡◌, ◌||◌, false, not, nat_lt, length, Option, Some}
use Rattle.std.specs.Prelude.{None, if◌then◌else◌, ◌==◌, find, is_some}
use Rattle.std.specs.Option.{ForSome}
use Rattle.td_clock.specs.Vector.{vector_get}
use Rattle.td_op.specs.declared.reply.Reply.TheVariants.{Repeat, Unfit}
use Rattle.td_op.specs.declared.reply.Why.{Why}
use Rattle.td_op.specs.declared.reply.Why.TheVariants.{Size, Own, Proposal, Address}
use Rattle.td_op.specs.declared.vote.Vote.{Vote}
use Rattle.td_op.specs.Op.{OpValue}
use Rattle.td_machine.specs.Decision.{is_on, is_counted, counted, outcome}
use Rattle.td_machine.specs.Machine.{Machine, made}
use Rattle.td_machine.specs.Ready.{is_had, is_ready, waits}
use Rattle.td_machine.specs.Taking.{misfit}
use Rattle.td_replica.specs.declared.operations.Judged.{Judged}
use Rattle.td_replica.specs.declared.operations.Judged.TheVariants.{Refuse, Delay, Take}

abbrev pub fitting : Option Why → Judged
fitting None = Take
fitting (Some why) = Refuse (Unfit why)

-- an operation that is offered
abbrev pub judged : OpValue → Machine → Judged
judged x m =
    if not (length x.deps == m.size) then Refuse (Unfit Size)
    else (if is_had m.have x || waits x.dot m.waiting then Refuse Repeat
    else (if x.dot.site == m.site || nat_lt (made m) (vector_get x.deps m.site) then Refuse (Unfit Own)
    else (if not (is_ready m.have x) then Delay else fitting (misfit x m))))

-- why a vote is none that another site sends here
abbrev pub vote_misfit : Vote → Machine → Option Why
vote_misfit v m =
    if nat_lt m.size v.voter || nat_lt m.size v.proposal.site then Some Size
    else (if not (v.proposal.site == m.site) then Some Address
    else (if is_some (find (is_on v.proposal) m.ballots) then None else Some Proposal))

-- the vote is new, and brings no decision
abbrev pub IsUndue : Vote → Machine → Type 0
IsUndue v m =
    ForSome (find (is_on v.proposal) m.ballots)
    (λ b. (is_counted v.voter b ≡ false) × (outcome m.size v.yes (counted v.voter v.yes b) ≡ None))
