use Rattle.std.proofs.Common.{◌≡◌, ◌+◌, length, take}
use Rattle.std.specs.List.{concat, flat_map}
use Rattle.td_rope.specs.Units.{width}
use Rattle.td_rope.proofs.seat.index_of.Given as goal

abbrev pub invariant-loop-part : goal.invariant-loop-part
invariant-loop-part g l =
    let front = flat_map g.P.Part.atoms (take l.part-index l.parts) in
    (l.start ≡ length front) × (width l.unit (concat front) + l.rest ≡ l.fn.offset)
