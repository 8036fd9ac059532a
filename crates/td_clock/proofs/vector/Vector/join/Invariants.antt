use Rattle.std.proofs.Common.{◌≡◌}
use Rattle.td_clock.proofs.VectorLemmas.{joined_to}
use Rattle.td_clock.proofs.vector.Vector.join.Given as goal

abbrev pub invariant-loop-i : goal.invariant-loop-i
invariant-loop-i l = record {
  size : l.self-inside.size ≡ l.initial.self-inside.size;
  numbers : l.self-inside.numbers ≡ joined_to l.i l.initial.self-inside.numbers l.other-inside.numbers;
}
