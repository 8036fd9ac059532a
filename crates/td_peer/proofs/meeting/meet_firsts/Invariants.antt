use Rattle.std.proofs.Common.{◌≡◌, ◌++◌, length, map, drop}
use Rattle.td_law_meeting.specs.Rows.{MatchesFirsts}
use Rattle.td_peer.specs.Peers.{AreLinked, PeersMet}
use Rattle.td_peer.proofs.meeting.meet_firsts.Given as goal

abbrev pub invariant-loop-alloc : goal.invariant-loop-alloc
invariant-loop-alloc g l = record {
  links : MatchesFirsts AreLinked l.row l.rows.items;
  back : MatchesFirsts PeersMet l.row l.rows.items → MatchesFirsts PeersMet l.fn.row l.fn.rows.items;
  left : l.left.items ++ map (drop 1) l.rows.items ≡ map (drop 1) l.fn.rows.items;
}

abbrev pub decreases-loop-alloc : goal.decreases-loop-alloc
decreases-loop-alloc g l = length l.row
