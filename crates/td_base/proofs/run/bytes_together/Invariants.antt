use Rattle.std.proofs.Common.{◌≡◌, ◌≤◌, ◌*◌, length, take}
use Rattle.std.specs.List.{All, concat}
use Rattle.td_base.specs.Atom.{IsAtom}
use Rattle.td_base.specs.declared.atom.TheConstants.{MAX_ATOM_LEN}
use Rattle.td_base.proofs.run.bytes_together.Given as goal

abbrev pub invariant-loop-atom : goal.invariant-loop-atom
invariant-loop-atom l = record {
  len : l.len ≡ length (concat (take l.atom-index l.atoms));
  fits : l.len ≤ MAX_ATOM_LEN * l.atom-index;
  each : All IsAtom (take l.atom-index l.atoms);
}
