use Rattle.std.proofs.Common.{◌≡◌}
use Rattle.test_store.proofs.typed.add_all.Given as goal

abbrev pub invariant-loop-k : goal.invariant-loop-k
invariant-loop-k l = l.ops.size ≡ 2
