use Rattle.td_path.proofs.ArrayShape.{LeadsTo}
use Rattle.td_path.proofs.shape.shape_path.Given as goal

abbrev pub invariant-loop-bits : goal.invariant-loop-bits
invariant-loop-bits l = LeadsTo l.fn.k l.fn.i l.bits.items l.count l.place

abbrev pub decreases-loop-bits : goal.decreases-loop-bits
decreases-loop-bits l = l.count
