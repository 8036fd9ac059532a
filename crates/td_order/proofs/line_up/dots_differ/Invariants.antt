use Rattle.td_order.proofs.Differ.{Same}
use Rattle.td_order.proofs.line_up.dots_differ.Given as goal

abbrev pub invariant-loop-i : goal.invariant-loop-i
invariant-loop-i l = Same l.ops l.i
