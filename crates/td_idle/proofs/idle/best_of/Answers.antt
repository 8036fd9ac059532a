use Rattle.std.proofs.Common.{take, ◌+◌}
use Rattle.td_idle.proofs.Chosen.{best_next}
use Rattle.td_idle.proofs.Lists.{take_next}
use Rattle.td_idle.proofs.idle.best_of.Goals as goal

pub loop-slot-preserved : goal.loop-slot-preserved
loop-slot-preserved g c =
    best_next (g.D.Doc.rows c.args.doc.now) (take (c.loop-slot.slot-index + 1) c.args.slots.now)
    (take c.loop-slot.slot-index c.args.slots.now) c.slot-item.result c.loop-slot.best c.keep_better.new.best
    (take_next c.loop-slot.slot-index c.args.slots.now c.slot-item.result c.loop-slot-test.true c.slot-item.is)
    c.loop-slot.invariant c.keep_better.ensures
