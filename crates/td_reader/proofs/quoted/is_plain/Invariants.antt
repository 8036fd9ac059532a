use Rattle.std.proofs.Common.{◌≡◌, ◌≤◌, ◌++◌, false, drop, length, take}
use Rattle.td_reader.specs.Arguments.{plain}
use Rattle.td_reader.proofs.quoted.is_plain.Given as goal

abbrev pub invariant-loop-byte : goal.invariant-loop-byte
invariant-loop-byte l = record {
  within : l.at ≤ length l.text;
  done : take l.at l.text ++ plain l.is_escaped (drop l.byte-index l.raw) ≡ plain false l.raw;
}
