use Rattle.std.proofs.Common.{◌∙◌}
use Rattle.td_machine.specs.Ready.{next_ready}
use Rattle.td_causal.specs.Waiting.{ops_waiting}
use Rattle.td_causal.proofs.Least.{some_as}
use Rattle.td_causal.proofs.buffer.Buffer.has_ready.Goals as goal

pub returns : goal.returns
returns c =
    c.is_some.ensures
    ∙ some_as c.args.ops.now.ops c.least_ready.result
    (next_ready c.args.have.now (ops_waiting c.args.ops.now.ops c.args.self.now)) c.least_ready.ensures.least
    c.least_ready.ensures.within
