use Rattle.std.proofs.Common.{◌≡◌, Bool, reverse, take}
use Rattle.std.specs.Fn.{FnReturnsAt}
use Rattle.td_path.specs.declared.slot.Slot.{Slot}
use Rattle.td_machine.specs.Hold.{held_by}
use Rattle.td_vote.proofs.held.least_held.Given as goal

abbrev pub invariant-loop-held : goal.invariant-loop-held
invariant-loop-held g l =
    (passes : Slot → Bool) → ((s : Slot) (b : Bool) → FnReturnsAt g.F.Fn l.fn.test s b → b ≡ passes s)
    → l.least ≡ held_by passes (reverse (take l.held-index l.fn.holds))
