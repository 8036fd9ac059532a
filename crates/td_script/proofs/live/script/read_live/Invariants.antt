use Rattle.std.proofs.Common.{◌+◌, ◌≤◌, length}
use Rattle.td_script.proofs.ReadLive.{IsLiveReadTo}
use Rattle.td_script.proofs.live.script.read_live.Given as goal

abbrev pub invariant-loop-rest : goal.invariant-loop-rest
invariant-loop-rest l = record {
  read : IsLiveReadTo l.bytes l.rest l.before l.number;
  count : l.number + length l.rest ≤ length l.bytes;
}

abbrev pub decreases-loop-rest : goal.decreases-loop-rest
decreases-loop-rest l = length l.rest
