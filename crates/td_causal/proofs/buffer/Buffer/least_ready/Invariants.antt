use Rattle.td_causal.specs.Waiting.{ops_waiting}
use Rattle.td_causal.proofs.Least.{NoneBelow}
use Rattle.td_causal.proofs.buffer.Buffer.least_ready.Given as goal

abbrev pub invariant-loop-n : goal.invariant-loop-n
invariant-loop-n l = NoneBelow l.n l.have (ops_waiting l.ops.ops l.self)
