use Rattle.std.proofs.Common.{◌+◌, ◌*◌, ◌^◌, ◌≤◌, length}
use Rattle.td_script.proofs.ReadScript.{IsReadTo}
use Rattle.td_script.proofs.script.read_script.Given as goal

abbrev pub invariant-loop-rest : goal.invariant-loop-rest
invariant-loop-rest l = record {
  read : IsReadTo l.bytes l.rest l.commands l.before l.number;
  count : l.number + length l.rest ≤ length l.bytes;
  requests : l.before.requests ≤ l.number * 2 ^ 32;
}

abbrev pub decreases-loop-rest : goal.decreases-loop-rest
decreases-loop-rest l = length l.rest
