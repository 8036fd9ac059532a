use Rattle.std.proofs.Common.{◌≡◌, ◌⊎◌, ◌<◌, ℕ, [], length, get_or}
use Rattle.td_tree.proofs.flatten.empty.Given as goal

abbrev pub invariant-loop-k : goal.invariant-loop-k
invariant-loop-k l = record {
  long : length l.arrays.items ≡ length l.fn.arrays.items;
  each : (a : ℕ) → (get_or l.arrays.items a [] ≡ get_or l.fn.arrays.items a [])
      ⊎ ((a < l.to) × (get_or l.arrays.items a [] ≡ []));
}
