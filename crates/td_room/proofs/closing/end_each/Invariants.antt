use Rattle.std.proofs.Common.{length}
use Rattle.td_room.proofs.Ends.{Ending}
use Rattle.td_room.proofs.closing.end_each.Given as goal

abbrev pub invariant-loop-alloc : goal.invariant-loop-alloc
invariant-loop-alloc g l =
    Ending l.fn.editors.items l.fn.workers.items l.workers.items l.editors.items l.replicas.items l.answers.items
    l.rows.items

abbrev pub decreases-loop-alloc : goal.decreases-loop-alloc
decreases-loop-alloc g l = length l.workers.items
