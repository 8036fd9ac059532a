use Rattle.td_replica.proofs.Stepping.{refused}
use Rattle.td_replica.proofs.state.State.refuse.Goals as goal

pub returns-clause-ok : goal.returns-clause-ok
returns-clause-ok g c =
    refused c.args.reply c.args.self.now c.reserve-2.new.self c.in_ok-reserve.ensures.same
    c.in_ok-reserve.ensures.ok.things
