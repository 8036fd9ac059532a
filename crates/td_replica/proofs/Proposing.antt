-- A proposal does nothing to the atoms shown, nor does the commit that may come with it.
use Rattle.std.proofs.Common.{◌≡◌, Bool, true, false, Option, Some, None, refl}
use Rattle.td_path.specs.declared.slot.Slot.{Slot}
use Rattle.td_op.specs.declared.body.Body.TheVariants.{Propose, Commit, Abort}
use Rattle.td_machine.specs.Decision.{new_ballot, outcome}
use Rattle.td_machine.specs.Machine.{Machine, next_dot, next_op}
use Rattle.td_machine.specs.Making.{make, propose, decide, hold, open_ballot}
use Rattle.td_machine.specs.Shown.{change_between}
use Rattle.td_replica.proofs.Stepping.{change_once, change_twice}

pub propose_log : (m : Machine) (slot : Slot) → change_between m (propose slot m) ≡ None
propose_log m slot = at (outcome m.size true (new_ballot (next_dot m)))
  where
    here : Machine
    here = open_ballot (next_dot m) (hold (next_dot m) slot (make (Propose slot) m))

    at : (o : Option Bool) → change_between m (decide (next_dot m) o here) ≡ None
    at None = change_once m here (next_op m (Propose slot)) refl
    at (Some true) =
        change_twice m (make (Commit (next_dot m)) here) (next_op here (Commit (next_dot m)))
        (next_op m (Propose slot)) refl
    at (Some false) =
        change_twice m (make (Abort (next_dot m)) here) (next_op here (Abort (next_dot m)))
        (next_op m (Propose slot)) refl
