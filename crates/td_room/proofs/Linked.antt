-- Links stay what they are.
use Rattle.std.proofs.Common.{ℕ, zero, suc, List, [], ◌∷◌, map, drop}
use Rattle.std.specs.List.{AllZip}
use Rattle.td_law_meeting.specs.Rows.{MatchesFirsts, AllMatch}
use Rattle.td_peer.specs.Peers.{PeerState, AreLinked}
use Rattle.td_peer.specs.Serving.{LaterPeer}
use Rattle.td_peer.proofs.Later.{linked_later}

abbrev pub LaterRows : List (List PeerState) → List (List PeerState) → Type 0
LaterRows rows after = AllZip (λ (ps qs : List PeerState). AllZip LaterPeer ps qs) rows after

firsts_later : (ps qs : List PeerState) (rows after : List (List PeerState)) → AllZip LaterPeer ps qs
    → LaterRows rows after
    → MatchesFirsts AreLinked ps rows → MatchesFirsts AreLinked qs after
firsts_later [] [] [] [] a r m = m
firsts_later [] [] [] (s ∷ after) a r m = absurd r
firsts_later [] [] (x ∷ rows) after a r m = absurd m
firsts_later [] (q ∷ qs) rows after a r m = absurd a
firsts_later (p ∷ ps) [] rows after a r m = absurd a
firsts_later (p ∷ ps) (q ∷ qs) [] after a r m = absurd m
firsts_later (p ∷ ps) (q ∷ qs) ([] ∷ rows) after a r m = absurd m
firsts_later (p ∷ ps) (q ∷ qs) ((x ∷ xs) ∷ rows) [] a r m = absurd r
firsts_later (p ∷ ps) (q ∷ qs) ((x ∷ xs) ∷ rows) ([] ∷ after) a r m = absurd r.0
firsts_later (p ∷ ps) (q ∷ qs) ((x ∷ xs) ∷ rows) ((y ∷ ys) ∷ after) a r m =
    (linked_later p x q y a.0 r.0.0 m.0, firsts_later ps qs rows after a.1 r.1 m.1)

rests_later : (rows after : List (List PeerState)) → LaterRows rows after
    → LaterRows (map (drop 1) rows) (map (drop 1) after)
rests_later [] [] r = r
rests_later [] (y ∷ after) r = absurd r
rests_later (x ∷ rows) [] r = absurd r
rests_later ([] ∷ rows) ([] ∷ after) r = (tt, rests_later rows after r.1)
rests_later ([] ∷ rows) ((y ∷ ys) ∷ after) r = absurd r.0
rests_later ((x ∷ xs) ∷ rows) ([] ∷ after) r = absurd r.0
rests_later ((x ∷ xs) ∷ rows) ((y ∷ ys) ∷ after) r = (r.0.1, rests_later rows after r.1)

pub all_linked : (k : ℕ) (rows after : List (List PeerState)) → LaterRows rows after → AllMatch AreLinked k rows
    → AllMatch AreLinked k after
all_linked zero rows after r m = m
all_linked (suc k) [] [] r m = m
all_linked (suc k) [] (y ∷ after) r m = absurd r
all_linked (suc k) (x ∷ rows) [] r m = absurd r
all_linked (suc k) (x ∷ rows) (y ∷ after) r m = (
  firsts_later x y rows after r.0 r.1 m.0,
  all_linked k (map (drop 1) rows) (map (drop 1) after) (rests_later rows after r.1) m.1,
)
