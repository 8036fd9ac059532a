use Rattle.std.proofs.Common.{◌≡◌, ◌<◌, ◌≤◌, length}
use Rattle.std.specs.Prelude.{slice_get}
use Rattle.td_path.specs.declared.slot_path.SlotPath.TheVariants.{Below}
use Rattle.td_doc.specs.Array.{array}
use Rattle.td_doc.proofs.array.array_row.Given as goal

abbrev pub invariant-loop-path : goal.invariant-loop-path
invariant-loop-path l = record {
  within : l.left < length l.rest;
  few : length l.rest ≤ length l.fn.atoms;
  row : slice_get (array (Below l.path l.bit) l.rest) l.left ≡ slice_get (array l.fn.slot l.fn.atoms) l.fn.place;
}

abbrev pub decreases-loop-path : goal.decreases-loop-path
decreases-loop-path l = length l.rest
