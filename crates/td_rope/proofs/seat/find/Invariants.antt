use Rattle.std.proofs.Common.{◌≡◌, ◌<◌, ◌+◌, ◌-◌, length, take}
use Rattle.std.specs.List.{flat_map}
use Rattle.td_rope.proofs.seat.find.Given as goal

abbrev pub invariant-loop-part : goal.invariant-loop-part
invariant-loop-part g l =
    (l.part < length l.parts)
    × (length (flat_map g.P.Part.atoms (take l.part l.parts)) + l.rest ≡ l.fn.index)

abbrev pub decreases-loop-part : goal.decreases-loop-part
decreases-loop-part g l = length l.parts - l.part
