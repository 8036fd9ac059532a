use Rattle.std.proofs.Common.{◌≡◌, true, take}
use Rattle.std.specs.List.{list_all}
use Rattle.td_idle.specs.Certificate.{is_top}
use Rattle.td_idle.proofs.conditions.are_tops.Given as goal

abbrev pub invariant-loop-top : goal.invariant-loop-top
invariant-loop-top g l = list_all (is_top l.replica.machine l.slot) (take l.top-index l.tops) ≡ true
