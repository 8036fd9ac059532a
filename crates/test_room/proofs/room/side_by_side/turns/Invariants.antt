use Rattle.td_room.specs.Workers.{LaterWorker}
use Rattle.test_room.proofs.room.side_by_side.turns.Given as goal

abbrev pub invariant-loop : goal.invariant-loop
invariant-loop g l = LaterWorker l.fn.worker l.worker
