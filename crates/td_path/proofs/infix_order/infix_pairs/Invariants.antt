use Rattle.std.proofs.Common.{◌≡◌, length}
use Rattle.td_path.specs.Infix.{path_cmp}
use Rattle.td_path.proofs.infix_order.infix_pairs.Given as goal

abbrev pub invariant-loop-p : goal.invariant-loop-p
invariant-loop-p l = path_cmp l.a l.b ≡ path_cmp l.fn.a l.fn.b

abbrev pub decreases-loop-p : goal.decreases-loop-p
decreases-loop-p l = length l.a
