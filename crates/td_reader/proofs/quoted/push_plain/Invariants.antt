use Rattle.std.proofs.Common.{◌≡◌, ◌++◌, false, drop}
use Rattle.td_reader.specs.Arguments.{plain}
use Rattle.td_reader.proofs.quoted.push_plain.Given as goal

abbrev pub invariant-loop-byte : goal.invariant-loop-byte
invariant-loop-byte l = l.text ++ plain l.is_escaped (drop l.byte-index l.raw) ≡ l.fn.text ++ plain false l.raw
