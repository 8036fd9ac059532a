use Rattle.std.proofs.Common.{take}
use Rattle.td_check.specs.Looks.{AreFound}
use Rattle.td_check.proofs.looks.find_told.Given as goal

abbrev pub invariant-loop-place : goal.invariant-loop-place
invariant-loop-place l = AreFound l.trace l.text (take l.place-index l.places) l.fn.found l.found
