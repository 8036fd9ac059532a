use Rattle.td_room.proofs.Working.{worker_self, worker_then}
use Rattle.test_room.proofs.room.side_by_side.turns.Goals as goal

pub loop-init : goal.loop-init
loop-init g c = worker_self c.args.worker.now

pub loop-preserved : goal.loop-preserved
loop-preserved g c = worker_then c.args.worker.now c.loop.worker c.turn.new.self c.loop.invariant c.turn.ensures.later
