use Rattle.std.proofs.Common.{length}
use Rattle.td_reader.proofs.Kept.{HasParted}
use Rattle.td_reader.proofs.trace.read_trace.Given as goal

abbrev pub invariant-loop-rest : goal.invariant-loop-rest
invariant-loop-rest l = HasParted l.bytes l.rest l.starts.items l.parts l.reached

abbrev pub decreases-loop-rest : goal.decreases-loop-rest
decreases-loop-rest l = length l.rest
