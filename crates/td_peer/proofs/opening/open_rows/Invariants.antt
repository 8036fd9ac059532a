use Rattle.std.proofs.Common.{◌≡◌, ◌+◌, length}
use Rattle.td_peer.proofs.Openings.{Opened}
use Rattle.td_peer.proofs.opening.open_rows.Given as goal

abbrev pub invariant-loop-before : goal.invariant-loop-before
invariant-loop-before l = record {
  count : l.before + length l.rows.items ≡ l.fn.n;
  opened : Opened (l.before + 1) (length l.rows.items) l.fn.loss l.rows.items;
}

-- proposed from the loop's first test
abbrev pub decreases-loop-before : goal.decreases-loop-before
decreases-loop-before l = l.before
