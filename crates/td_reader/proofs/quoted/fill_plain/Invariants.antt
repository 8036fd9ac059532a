use Rattle.std.proofs.Common.{◌≡◌, ◌≤◌, ◌++◌, false, take, drop, length}
use Rattle.td_base.specs.declared.atom.TheConstants.{MAX_ATOM_LEN}
use Rattle.td_reader.specs.Arguments.{plain}
use Rattle.td_reader.proofs.quoted.fill_plain.Given as goal

abbrev pub invariant-loop-byte : goal.invariant-loop-byte
invariant-loop-byte l = record {
  few : l.len ≤ MAX_ATOM_LEN;
  size : length l.bytes ≡ MAX_ATOM_LEN;
  done : take l.len l.bytes ++ plain l.is_escaped (drop l.byte-index l.raw) ≡ plain false l.raw;
}
