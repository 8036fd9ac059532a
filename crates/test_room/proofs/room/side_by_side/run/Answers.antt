use Rattle.std.proofs.Common.{sym, subst}
use Rattle.td_room.specs.Workers.{WorkerValue, LaterWorker}
use Rattle.td_room.proofs.Walks.{zip_set}
use Rattle.td_room.proofs.Working.{worker_self}
use Rattle.test_room.proofs.room.side_by_side.run.Goals as goal

pub returns : goal.returns
returns g c =
    zip_set LaterWorker c.args.workers.now 0 c.index-workers-0.result c.turns.new.worker worker_self
    c.index-workers-0.is
    (subst (λ (w : WorkerValue). LaterWorker w c.turns.new.worker) (sym c.index-workers-0.is) c.turns.ensures)
