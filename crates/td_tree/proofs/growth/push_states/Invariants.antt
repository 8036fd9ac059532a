use Rattle.std.proofs.Common.{◌≡◌, ◌+◌, ◌-◌, ◌≤◌, ◌++◌, map}
use Rattle.std.specs.Prelude.{vec_len, vec_capacity}
use Rattle.std.specs.List.{range_with_len}
use Rattle.td_tree.specs.declared.tree_row.RowState.TheVariants.{InArray}
use Rattle.td_tree.proofs.growth.push_states.Given as goal

abbrev pub invariant-loop-index : goal.invariant-loop-index
invariant-loop-index l = record {
  room : vec_len l.states + (l.count - l.index) ≤ vec_capacity l.states;
  there : l.states.items ≡ l.fn.states.items ++ map (InArray l.array) (range_with_len 0 l.index);
}
