-- Rows of peers as their links end.
use Rattle.std.proofs.Common.{◌≡◌, ◌<◌, ◌++◌, ℕ, suc, List, [], ◌∷◌, length, map, drop}
use Rattle.std.proofs.Common.{refl, sym, ap, ◌∙◌, subst, append_assoc, arith}
use Rattle.td_law_meeting.specs.Rows.{MatchesFirsts, AllMatch}
use Rattle.td_peer.specs.Peers.{PeerState, AreLinked, PeersMet}
use Rattle.td_peer.specs.Meeting.{MetNext}

-- there is a row behind for each of the row, and it has a first
pub some_row : (row : List PeerState) (rows : List (List PeerState)) → 0 < length row → MatchesFirsts AreLinked row rows
    → 0 < length rows
some_row [] rows some m = absurd (omega (arith, some))
some_row (p ∷ row) [] some m = absurd m
some_row (p ∷ row) ([] ∷ rows) some m = absurd m
some_row (p ∷ row) ((q ∷ qs) ∷ rows) some m = omega arith

pub record Heads (p : PeerState) (row qs : List PeerState) (rows : List (List PeerState)) : Type 0 where
  pub some : 0 < length qs
  pub linked : (q : PeerState) (rest' : List PeerState) → qs ≡ q ∷ rest' → AreLinked p q
  pub links : MatchesFirsts AreLinked row rows

pub heads : (p : PeerState) (row qs : List PeerState) (rows : List (List PeerState))
    → MatchesFirsts AreLinked (p ∷ row) (qs ∷ rows) → Heads p row qs rows
heads p row [] rows m = absurd m
heads p row (q ∷ qs) rows m =
    record {
      some = omega arith;
      linked = λ r rest' e. subst (λ (x : PeerState). AreLinked p x) (head q r qs rest' e) m.0;
      links = m.1;
    }
  where
    head : (a b : PeerState) (xs ys : List PeerState) → a ∷ xs ≡ b ∷ ys → a ≡ b
    head a b xs ys e = cc

pub heads_of : (whole row qs : List PeerState) (p : PeerState) (all rows : List (List PeerState)) → whole ≡ p ∷ row
    → all ≡ qs ∷ rows → MatchesFirsts AreLinked whole all → Heads p row qs rows
heads_of whole row qs p all rows e f m =
    heads p row qs rows (subst (λ (v : List PeerState × List (List PeerState)). MatchesFirsts AreLinked v.0 v.1)
    (λ i. (e i, f i)) m)

pub met_next : (row next qs rest' : List PeerState) (p q : PeerState) (rows others left more : List (List PeerState))
    → row ≡ p ∷ next → rows ≡ qs ∷ others → qs ≡ q ∷ rest' → PeersMet p q → more ≡ left ++ rest' ∷ []
    → MatchesFirsts AreLinked row rows → MetNext row next rows others left more
met_next row next qs rest' p q rows others left more e f g met h m =
    let all : rows ≡ (q ∷ rest') ∷ others = f ∙ ap (λ (x : List PeerState). x ∷ others) g in
    record {
      links = (heads_of row next qs p rows others e f m).links;
      back = λ b. subst (λ (v : List PeerState × List (List PeerState)). MatchesFirsts PeersMet v.0 v.1)
          (λ i. (sym e i, sym all i)) (met, b);
      left = ap (λ (w : List (List PeerState)). w ++ map (drop 1) others) h
          ∙ append_assoc left (rest' ∷ []) (map (drop 1) others)
          ∙ ap (λ (w : List (List PeerState)). left ++ map (drop 1) w) (sym all);
      shorter = ap length e;
    }

pub none_left : (row : List PeerState) (rows : List (List PeerState)) → length row ≡ 0
    → MatchesFirsts AreLinked row rows → MatchesFirsts PeersMet row rows × (map (drop 1) rows ≡ [])
none_left [] [] e m = (m, refl)
none_left [] (r ∷ rows) e m = absurd m
none_left (p ∷ row) rows e m = absurd (omega (arith, e))

rests_length : (rows : List (List PeerState)) → length (map (drop 1) rows) ≡ length rows
rests_length [] = refl
rests_length (r ∷ rows) = ap suc (rests_length rows)

-- the links of the worker of the first row, and the rows that are left
pub links_left : (rows others left : List (List PeerState)) (row : List PeerState) → rows ≡ row ∷ others
    → AllMatch AreLinked (length rows) rows → left ≡ map (drop 1) others
    → MatchesFirsts AreLinked row others × AllMatch AreLinked (length left) left
links_left rows others left row e m l =
    let w : AllMatch AreLinked (suc (length others)) (row ∷ others) =
    subst (λ (v : List (List PeerState)). AllMatch AreLinked (length v) v) e m in (
      w.0,
      subst (λ (v : List (List PeerState)). AllMatch AreLinked (length v) v) (sym l)
          (subst (λ (k : ℕ). AllMatch AreLinked k (map (drop 1) others)) (sym (rests_length others)) w.1),
    )

pub met_back : (rows others left : List (List PeerState)) (row : List PeerState) → rows ≡ row ∷ others
    → MatchesFirsts PeersMet row others → left ≡ map (drop 1) others → AllMatch PeersMet (length left) left
    → AllMatch PeersMet (length rows) rows
met_back rows others left row e m l a =
    let b : AllMatch PeersMet (length (map (drop 1) others)) (map (drop 1) others) =
    subst (λ (v : List (List PeerState)). AllMatch PeersMet (length v) v) l a in
    subst (λ (v : List (List PeerState)). AllMatch PeersMet (length v) v) (sym e)
    (m, subst (λ (k : ℕ). AllMatch PeersMet k (map (drop 1) others)) (rests_length others) b)

pub all_left : (rows : List (List PeerState)) → length rows ≡ 0 → AllMatch PeersMet (length rows) rows
all_left [] e = tt
all_left (r ∷ rows) e = absurd (omega (arith, e))
