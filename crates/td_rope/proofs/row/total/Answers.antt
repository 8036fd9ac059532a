use Rattle.std.proofs.Common.{◌+◌, subst, sym, take}
use Rattle.std.specs.List.{flat_map}
use Rattle.td_rope.specs.Sizes.{IsSize}
use Rattle.td_rope.proofs.Sizes.{total_more, total_small}
use Rattle.td_rope.proofs.row.total.Goals as goal

pub plus-total-requires : goal.plus-total-requires
plus-total-requires g c =
    total_small g.P.Part.atoms c.args.parts.now c.loop-part.part-index c.part-item.result c.loop-part.total
    c.size.result
    c.loop-part-test.true c.part-item.is c.loop-part.invariant c.size.ensures c.requires

pub loop-part-preserved : goal.loop-part-preserved
loop-part-preserved g c =
    let f = g.P.Part.atoms in
    let ps = c.args.parts.now in
    let i = c.loop-part.part-index in
    subst (IsSize (flat_map f (take (i + 1) ps))) (sym c.plus-total.ensures)
    (total_more f ps i c.part-item.result c.loop-part.total c.size.result c.loop-part-test.true c.part-item.is
    c.loop-part.invariant c.size.ensures)
