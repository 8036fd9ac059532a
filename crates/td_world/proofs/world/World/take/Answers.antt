use Rattle.td_world.specs.Calls.{take, nexts_after}
use Rattle.td_world.specs.World.{moved}
use Rattle.td_world.proofs.Cuts.{stopped_here, stopped_same, err_always}
use Rattle.td_world.proofs.world.World.take.Goals as goal

pub returns-in_err-reply-clause-err : goal.returns-in_err-reply-clause-err
returns-in_err-reply-clause-err g c =
    err_always c.from_residual.result
    (stopped_here (take c.args.to c.args.message.now)
    (nexts_after c.args.to (moved (take c.args.to c.args.message.now) c.args.self.now)) c.args.self.now
    c.step_taking.new.self
    c.in_err-reply.ensures.err)

pub returns-in_err-next-clause-err : goal.returns-in_err-next-clause-err
returns-in_err-next-clause-err g c =
    err_always c.from_residual-in_err-next.result
    (stopped_same (take c.args.to c.args.message.now)
    (λ w. nexts_after c.args.to w) c.args.self.now c.step_taking.new.self c.go_on.new.self
    c.in_ok-reply.ensures.ok c.in_err-next.ensures.err)
