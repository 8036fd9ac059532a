use Rattle.std.proofs.Common.{◌≡◌, ◌≤◌, ◌+◌, ◌++◌, length, vec_len}
use Rattle.std.specs.Vec.{vec_capacity}
use Rattle.td_op.proofs.change.push_run.Given as goal

-- the atoms that are put, and those that are to come
abbrev pub invariant-loop-atom : goal.invariant-loop-atom
invariant-loop-atom l = record {
  can : (goal.iterator-loop-atom).can_next l.atom-iterator;
  ends : (goal.iterator-loop-atom).is_finite l.atom-iterator;
  items : l.atoms.items ++ l.atom-iterator ≡ l.fn.atoms.items ++ l.run;
  len : vec_len l.atoms + length l.atom-iterator ≡ vec_len l.fn.atoms + length l.run;
  capacity : vec_capacity l.fn.atoms ≤ vec_capacity l.atoms;
}
