use Rattle.std.proofs.Common.{[]}
use Rattle.td_check.specs.Alone.{AreRows}
use Rattle.td_check.proofs.alone.no_counts.Given as goal

abbrev pub invariant-loop-n : goal.invariant-loop-n
invariant-loop-n l = AreRows l.trace [] l.n l.rows.items
