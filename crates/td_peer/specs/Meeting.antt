-- Links that end one after another.
use Rattle.std.specs.Prelude.{◌≡◌, suc, List, ◌++◌, length, map, drop}
use Rattle.td_law_meeting.specs.Rows.{MatchesFirsts}
use Rattle.td_peer.specs.Peers.{PeerState, AreLinked, PeersMet}

-- the first of the row has met the first of the first row behind it; what is left of that is put to the others
pub record MetNext (row next : List PeerState) (rows others before more : List (List PeerState)) : Type 0 where
  pub links : MatchesFirsts AreLinked next others
  pub back : MatchesFirsts PeersMet next others → MatchesFirsts PeersMet row rows
  pub left : more ++ map (drop 1) others ≡ before ++ map (drop 1) rows
  pub shorter : length row ≡ suc (length next)
