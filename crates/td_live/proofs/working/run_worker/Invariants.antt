use Rattle.td_room.specs.Workers.{LaterWorker}
use Rattle.td_live.proofs.working.run_worker.Given as goal

abbrev pub invariant-loop : goal.invariant-loop
invariant-loop g l = LaterWorker l.fn.worker l.worker
