use Rattle.std.proofs.Common.{◌≡◌, ◌<◌, ℕ, length, get_or}
use Rattle.td_base.specs.Lists.{In}
use Rattle.td_tree.specs.declared.tree_row.RowState.TheVariants.{Gone}
use Rattle.td_tree.proofs.states.bury.Given as goal

abbrev pub invariant-loop-k : goal.invariant-loop-k
invariant-loop-k l = record {
  long : length l.states.items ≡ length l.fn.states.items;
  gone : (j : ℕ) → j < l.k → get_or l.states.items (get_or l.numbers j 0) Gone ≡ Gone;
  others : (r : ℕ) → (In r l.numbers → ⊥) → get_or l.states.items r Gone ≡ get_or l.fn.states.items r Gone;
}
