use Rattle.std.proofs.Common.{take}
use Rattle.std.specs.List.{flat_map}
use Rattle.td_rope.specs.Sizes.{IsSize}
use Rattle.td_rope.proofs.row.total.Given as goal

abbrev pub invariant-loop-part : goal.invariant-loop-part
invariant-loop-part g l = IsSize (flat_map g.P.Part.atoms (take l.part-index l.parts)) l.total
