use Rattle.std.proofs.Common.{◌≡◌, take}
use Rattle.td_doc.specs.Array.{array}
use Rattle.td_doc.proofs.array.array.Given as goal

abbrev pub invariant-loop-place : goal.invariant-loop-place
invariant-loop-place l = l.rows.items ≡ take l.place (array l.slot l.atoms)
