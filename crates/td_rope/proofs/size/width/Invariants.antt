use Rattle.std.proofs.Common.{◌≡◌, take}
use Rattle.td_rope.specs.Units.{width}
use Rattle.td_rope.proofs.size.width.Given as goal

abbrev pub invariant-loop-byte : goal.invariant-loop-byte
invariant-loop-byte l = l.width ≡ width l.unit (take l.byte-index l.bytes)
