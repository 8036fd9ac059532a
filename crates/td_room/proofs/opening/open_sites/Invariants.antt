use Rattle.std.proofs.Common.{◌≡◌, length}
use Rattle.td_room.proofs.Opens.{Sites}
use Rattle.td_room.proofs.opening.open_sites.Given as goal

abbrev pub invariant-loop-alloc : goal.invariant-loop-alloc
invariant-loop-alloc g l = record {
  sites : Sites l.homes l.n l.fn.rows.items l.rows.items l.workers.items l.readers.items;
  opener : l.opener ≡ l.fn.opener;
}

abbrev pub decreases-loop-alloc : goal.decreases-loop-alloc
decreases-loop-alloc g l = length l.rows.items
