use Rattle.std.proofs.Common.{◌≡◌}
use Rattle.test_replica.proofs.coord.all_say_yes.Given as goal

abbrev pub invariant-loop-number : goal.invariant-loop-number
invariant-loop-number g l = l.tally.size ≡ 64
