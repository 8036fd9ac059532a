use Rattle.std.proofs.Common.{drop}
use Rattle.td_path.proofs.ArrayShape.{FoundAfter}
use Rattle.td_path.proofs.shape.shape_index.Given as goal

abbrev pub invariant-loop-bit : goal.invariant-loop-bit
invariant-loop-bit l = FoundAfter l.k l.bits l.before l.count (drop l.bit-index l.bits)
