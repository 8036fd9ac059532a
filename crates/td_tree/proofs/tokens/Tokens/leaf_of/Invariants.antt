use Rattle.std.proofs.Common.{◌<◌, ◌≤◌, ◌+◌, length}
use Rattle.td_tree.specs.Parts.{Cut, array_at}
use Rattle.td_tree.proofs.tokens.Tokens.leaf_of.Given as goal

abbrev pub invariant-loop-array : goal.invariant-loop-array
invariant-loop-array l = record {
  cut : Cut l.self l.array l.from l.len;
  low : l.from ≤ l.index;
  high : l.index < l.from + l.len;
  within : l.from + l.len ≤ length (array_at l.self l.array);
}

abbrev pub decreases-loop-array : goal.decreases-loop-array
decreases-loop-array l = l.len
