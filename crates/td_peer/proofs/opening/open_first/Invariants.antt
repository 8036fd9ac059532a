use Rattle.std.proofs.Common.{length}
use Rattle.td_peer.proofs.Openings.{Opens}
use Rattle.td_peer.proofs.opening.open_first.Given as goal

abbrev pub invariant-loop-alloc : goal.invariant-loop-alloc
invariant-loop-alloc l = record {
  opens : Opens l.fn.first l.fn.loss l.fn.rows.items l.row l.rows.items l.done.items l.last;
}

abbrev pub decreases-loop-alloc : goal.decreases-loop-alloc
decreases-loop-alloc l = length l.rows.items
