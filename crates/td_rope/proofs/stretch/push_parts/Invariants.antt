use Rattle.std.proofs.Common.{◌≡◌, ◌++◌, length, take}
use Rattle.std.specs.List.{flat_map, concat, slice_range}
use Rattle.td_rope.proofs.stretch.push_parts.Given as goal

abbrev pub invariant-loop-part : goal.invariant-loop-part
invariant-loop-part g l =
    let front = flat_map g.P.Part.atoms (take l.part-index l.parts) in
    (l.start ≡ length front) × (l.before ≡ length l.fn.text)
    × (l.text ≡ l.fn.text ++ concat (slice_range front l.from l.to))
