use Rattle.std.proofs.Common.{rules}
use Rattle.td_live.specs.Desks.{LaterDesk}
use Rattle.td_live.proofs.Each.{zip_at}
use Rattle.td_live.proofs.working.run_desks.Goals as goal

pub returns : goal.returns
returns g c =
    zip_at LaterDesk c.args.desks.now c.for_each_mut.new.s (search rules)
    (λ i d within. let made = c.for_each_mut.ensures i d within in search rules)
