use Rattle.std.proofs.Common.{length}
use Rattle.td_law_meeting.specs.Rows.{AllMatch}
use Rattle.td_peer.specs.Peers.{AreLinked, PeersMet}
use Rattle.td_peer.proofs.meeting.meet_all.Given as goal

abbrev pub invariant-loop-alloc : goal.invariant-loop-alloc
invariant-loop-alloc g l = record {
  links : AllMatch AreLinked (length l.rows.items) l.rows.items;
  back : AllMatch PeersMet (length l.rows.items) l.rows.items
      → AllMatch PeersMet (length l.fn.rows.items) l.fn.rows.items;
}

abbrev pub decreases-loop-alloc : goal.decreases-loop-alloc
decreases-loop-alloc g l = length l.rows.items
