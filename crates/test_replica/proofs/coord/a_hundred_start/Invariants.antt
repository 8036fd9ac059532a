use Rattle.std.proofs.Common.{◌≡◌}
use Rattle.test_replica.proofs.coord.a_hundred_start.Given as goal

abbrev pub invariant-loop-undecided : goal.invariant-loop-undecided
invariant-loop-undecided g l = l.tally.size ≡ 2
