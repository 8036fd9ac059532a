use Rattle.td_room.proofs.Ends.{joined_first, ending_next}
use Rattle.td_room.proofs.closing.end_each.Goals as goal

pub end_next-requires-clause-joined : goal.end_next-requires-clause-joined
end_next-requires-clause-joined g c =
    joined_first c.args.editors.items c.args.workers.now.items c.loop-alloc.workers.items c.loop-alloc.editors.items
    c.loop-alloc.replicas.items c.loop-alloc.answers.items c.loop-alloc.rows.items c.requires c.loop-alloc.invariant

pub loop-alloc-preserved : goal.loop-alloc-preserved
loop-alloc-preserved g c =
    let n = c.end_next.new in
    ending_next c.args.editors.items c.args.workers.now.items c.loop-alloc.workers.items n.workers.items
    c.loop-alloc.editors.items c.in_ok-editors.editors.items c.loop-alloc.replicas.items n.replicas.items
    c.loop-alloc.answers.items n.answers.items c.loop-alloc.rows.items n.rows.items c.requires c.loop-alloc.invariant
    c.in_ok-editors.ensures
