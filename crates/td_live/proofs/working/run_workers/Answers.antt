use Rattle.std.proofs.Common.{rules}
use Rattle.td_room.specs.Workers.{LaterWorker}
use Rattle.td_live.proofs.Each.{zip_at}
use Rattle.td_live.proofs.working.run_workers.Goals as goal

pub returns : goal.returns
returns g c =
    zip_at LaterWorker c.args.workers.now c.for_each_mut.new.s (search rules)
    (λ i d within. let made = c.for_each_mut.ensures i d within in search rules)
