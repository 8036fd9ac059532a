use Rattle.std.proofs.Common.{◌≡◌, ◌-◌, take, length}
use Rattle.td_base.specs.declared.run.TheConstants.{MAX_RUN_LEN}
use Rattle.td_reader.specs.Arguments.{atoms_upto}
use Rattle.td_reader.proofs.AtomLaws.{behind_atoms}
use Rattle.td_reader.proofs.atoms.fill_atoms.Given as goal

abbrev pub invariant-loop-len : goal.invariant-loop-len
invariant-loop-len l = record {
  size : length l.atoms ≡ MAX_RUN_LEN;
  read : atoms_upto MAX_RUN_LEN l.bytes ≡ behind_atoms (take l.len l.atoms) (atoms_upto (MAX_RUN_LEN - l.len) l.rest);
}
