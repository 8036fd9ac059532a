use Rattle.std.proofs.Common.{◌≡◌, length, drop}
use Rattle.td_tree.specs.Ways.{node_states}
use Rattle.td_tree.proofs.states.make_nodes.Given as goal

abbrev pub invariant-loop-k : goal.invariant-loop-k
invariant-loop-k l = record {
  long : length l.states.items ≡ length l.fn.states.items;
  rest : node_states (drop l.k l.numbers) l.states.items ≡ node_states l.numbers l.fn.states.items;
}
