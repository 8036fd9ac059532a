use Rattle.std.proofs.Common.{◌≡◌, ◌+◌, sum, take}
use Rattle.td_base.specs.Run.{pieces}
use Rattle.td_rope.specs.Units.{offset_of}
use Rattle.td_rope.proofs.chunk.index_of.Given as goal

abbrev pub invariant-loop-len : goal.invariant-loop-len
invariant-loop-len l =
    (l.index ≡ l.len-index) × (l.end ≡ sum (take l.len-index l.lengths))
    × (offset_of l.unit (pieces l.lengths l.bytes) l.len-index + l.rest ≡ l.fn.offset)
