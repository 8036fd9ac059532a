use Rattle.std.proofs.Common.{◌≡◌, ◌≤◌, ◌+◌, false, drop, length}
use Rattle.td_reader.specs.Arguments.{plain}
use Rattle.td_reader.proofs.quoted.plain_len.Given as goal

abbrev pub invariant-loop-byte : goal.invariant-loop-byte
invariant-loop-byte l = record {
  few : l.len ≤ l.byte-index;
  done : l.len + length (plain l.is_escaped (drop l.byte-index l.raw)) ≡ length (plain false l.raw);
}
