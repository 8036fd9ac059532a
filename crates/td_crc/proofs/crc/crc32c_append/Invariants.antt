use Rattle.std.proofs.Common.{◌≡◌, take}
use Rattle.td_crc.specs.Crc.{after_bytes, flipped}
use Rattle.td_crc.proofs.crc.crc32c_append.Given as goal

abbrev pub invariant-loop-byte : goal.invariant-loop-byte
invariant-loop-byte l = l.register ≡ after_bytes (flipped l.crc) (take l.byte-index l.bytes)
