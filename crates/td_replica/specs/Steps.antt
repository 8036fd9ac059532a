-- What a step did, as the parts of a replica tell it.
use Rattle.std.specs.Prelude.{◌≡◌, ◌<◌, ◌≤◌, Bool, true, false, length, Option, None, Some, IfSome, find}
use Rattle.std.specs.Option.{ForSome}
use Rattle.td_base.specs.Value.{DotValue}
use Rattle.td_op.specs.declared.vote.Vote.{Vote}
use Rattle.td_machine.specs.Decision.{is_on, counted, outcome}
use Rattle.td_op.specs.declared.body.Body.{Body}
use Rattle.td_op.specs.declared.body.Body.TheVariants.{Insert, Delete, Propose, Commit, Abort}
use Rattle.td_machine.specs.Machine.{Machine}
use Rattle.td_machine.specs.Shown.{change_between}
use Rattle.td_machine.specs.Taking.{Stepped}
use Rattle.td_replica.specs.declared.done.Done.{Done}
use Rattle.td_replica.specs.LastChange.{change_of}
use Rattle.td_replica.specs.Parts.{StateValue}

-- the reply and the machine are those of the step; there is room for the entry
pub record IsStep (s : Stepped) (old new : StateValue) (d : Done) : Type 0 where
  pub reply : d.reply ≡ s.reply
  pub machine : new.machine ≡ s.machine
  pub entries : new.entries ≡ old.entries
  pub change : change_of d.change new.ops new.machine.doc ≡ change_between old.machine s.machine
  pub room : 1 ≤ new.room.things
  pub number : IfSome d.number (λ k. k < length new.ops)

-- an insert or a delete
abbrev pub IsEdit : Body → Type 0
IsEdit (Insert slot run) = Unit {0}
IsEdit (Delete x) = Unit {0}
IsEdit (Propose slot) = ⊥
IsEdit (Commit p) = ⊥
IsEdit (Abort p) = ⊥

-- the decision, as an operation
abbrev pub body_of : DotValue → Option Bool → Option Body
body_of p None = None
body_of p (Some true) = Some (Commit p)
body_of p (Some false) = Some (Abort p)

-- the vote brings the decision with this body
abbrev pub IsDue : Vote → Body → Machine → Type 0
IsDue v body m =
    ForSome (find (is_on v.proposal) m.ballots)
    (λ b. body_of v.proposal (outcome m.size v.yes (counted v.voter v.yes b)) ≡ Some body)
