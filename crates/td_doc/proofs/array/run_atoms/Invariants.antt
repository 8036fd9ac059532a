use Rattle.std.proofs.Common.{◌≡◌, ◌+◌, ◌++◌, length}
use Rattle.td_base.specs.RunAtoms.{run_atoms, run_atoms_from}
use Rattle.td_doc.proofs.array.run_atoms.Given as goal

-- the atoms that are named, and those that are to come
abbrev pub invariant-loop-offset : goal.invariant-loop-offset
invariant-loop-offset l = record {
  can : (goal.iterator-loop-offset).can_next l.atom-iterator;
  ends : (goal.iterator-loop-offset).is_finite l.atom-iterator;
  place : l.offset + length l.atom-iterator ≡ length l.run;
  named : l.atoms.items ++ run_atoms_from l.dot l.offset l.atom-iterator ≡ run_atoms l.dot l.run;
}
