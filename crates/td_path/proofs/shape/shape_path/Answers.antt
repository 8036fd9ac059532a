use Rattle.std.proofs.Common.{◌<◌, ◌/◌}
use Rattle.std.specs.declared.cmp.Ordering.TheVariants.{Less, Equal, Greater}
use Rattle.std.proofs.lemmas.Cmp.{ranked}
use Rattle.td_path.proofs.ArrayShape.{leads_left, leads_right, leads_here}
use Rattle.td_path.proofs.shape.shape_path.Goals as goal

pub returns-in-Equal : goal.returns-in-Equal
returns-in-Equal c =
    leads_here c.args.k c.args.i c.loop-bits.bits.items c.loop-bits.count c.loop-bits.place c.loop-bits.invariant
    (ranked c.loop-bits.place (c.loop-bits.count / 2) Equal c.in-Equal.ensures)

pub loop-bits-preserved-in-Less : goal.loop-bits-preserved-in-Less
loop-bits-preserved-in-Less c =
    let before : c.loop-bits.place < c.loop-bits.count / 2 =
    ranked c.loop-bits.place (c.loop-bits.count / 2) Less c.in-Less.ensures in
    rw c.in_ok-push-in-Less.ensures.items
    (leads_left c.args.k c.args.i c.loop-bits.bits.items c.loop-bits.count c.loop-bits.place c.loop-bits.invariant
    before)

pub loop-bits-preserved : goal.loop-bits-preserved
loop-bits-preserved c =
    let behind : c.loop-bits.count / 2 < c.loop-bits.place =
    ranked c.loop-bits.place (c.loop-bits.count / 2) Greater c.in-Greater.ensures in
    rw c.in_ok-push-in-Greater.ensures.items
    (leads_right c.args.k c.args.i c.loop-bits.bits.items c.loop-bits.count c.loop-bits.place c.loop-bits.invariant
    behind)
