use Rattle.std.proofs.Common.{◌≡◌}
use Rattle.test_replica.proofs.coord.all_hold.Given as goal

abbrev pub invariant-loop-step : goal.invariant-loop-step
invariant-loop-step g l = l.tally.size ≡ l.n
