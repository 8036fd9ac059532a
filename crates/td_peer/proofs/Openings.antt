-- Rows of peers as links are opened, from the last site to the first.
use Rattle.std.proofs.Common.{◌≡◌, ◌≢◌, ◌<◌, ◌+◌, ◌-◌, ◌++◌, ℕ, zero, suc, List, [], ◌∷◌, length, map, drop}
use Rattle.std.proofs.Common.{slice_get, Some, refl, sym, ap, ◌∙◌, subst, append_assoc, append-nil, length-append}
use Rattle.std.proofs.Common.{arith}
use Rattle.std.specs.List.{AllByRecursion, range_with_len}
use Rattle.std.proofs.lemmas.Option.{same_Some}
use Rattle.std.proofs.lemmas.List.{map-append}
use Rattle.td_law_meeting.specs.Thin.{Loss}
use Rattle.td_law_meeting.specs.Rows.{MatchesFirsts, AllMatch}
use Rattle.td_law_meeting.proofs.Matching.{others_from, first_kept, first_left}
use Rattle.td_peer.specs.Peers.{PeerState, AreLinked}
use Rattle.td_peer.specs.declared.opening.TheConstants.{PLACES}
use Rattle.td_peer.specs.Opening.{IsNewPeer, IsFreshRow, AreFreshRows, Paired, OpensNext, OpensFirst}
use Rattle.td_base.proofs.Elements.{same_head, same_tail}

abbrev pub sites : List PeerState → List ℕ
sites row = map (λ (p : PeerState). p.site) row

-- ---- one more row

pub matches_more : {P : Type 0} (R : P → P → Type 0) (row : List P) (rows : List (List P)) (p q : P) (left : List P)
    → MatchesFirsts R row rows → R p q → MatchesFirsts R (row ++ p ∷ []) (rows ++ (q ∷ left) ∷ [])
matches_more R [] [] p q left m r = (r, tt)
matches_more R [] (x ∷ rows) p q left m r = absurd m
matches_more R (x ∷ row) [] p q left m r = absurd m
matches_more R (x ∷ row) ([] ∷ rows) p q left m r = absurd m
matches_more R (x ∷ row) ((y ∷ ys) ∷ rows) p q left m r = (m.0, matches_more R row rows p q left m.1 r)

range_more : (a n : ℕ) → range_with_len a n ++ (a + n) ∷ [] ≡ range_with_len a (suc n)
range_more a zero = ap (λ (k : ℕ). k ∷ []) (same a)
  where
    same : (b : ℕ) → b + 0 ≡ b
    same b = omega arith
range_more a (suc n) =
    ap (λ (k : ℕ). a ∷ (range_with_len (a + 1) n ++ k ∷ [])) (moved a n)
    ∙ ap (λ (w : List ℕ). a ∷ w) (range_more (a + 1) n)
  where
    moved : (b k : ℕ) → b + suc k ≡ b + 1 + k
    moved b k = omega arith

-- so far the row of the first site and those behind it have got something for each other
pub record Opens (first : ℕ) (lost : Loss) (whole : List (List PeerState)) (row : List PeerState)
    (rows done : List (List PeerState)) (last : ℕ) : Type 0 where
  pub paired : MatchesFirsts (Paired first lost) row done
  pub in_order : sites row ≡ range_with_len (first + 1) (length row)
  pub rests : map (drop 1) done ++ rows ≡ whole
  pub count : last ≡ first + length row
  pub total : length row + length rows ≡ length whole

pub opens_more : (first other last : ℕ) (lost : Loss) (whole : List (List PeerState)) (row next : List PeerState)
    (rows behind done more : List (List PeerState)) → Opens first lost whole row rows done last → other ≡ last + 1
    → OpensNext first other lost row next rows behind done more → Opens first lost whole next behind more (last + 1)
opens_more first other last lost whole row next rows behind done more o is n =
    record {
      paired = subst (λ (v : List PeerState × List (List PeerState)). MatchesFirsts (Paired first lost) v.0 v.1)
          (λ i. (sym n.longer i, sym n.put i))
          (matches_more (Paired first lost) row done n.one n.twin n.left o.paired n.paired);
      in_order = ap sites n.longer
          ∙ map-append (λ (p : PeerState). p.site) row (n.one ∷ [])
          ∙ ap (λ (k : ℕ). sites row ++ k ∷ []) (n.site ∙ turned first (length row) last other o.count is)
          ∙ ap (λ (w : List ℕ). w ++ (first + 1 + length row) ∷ []) o.in_order
          ∙ range_more (first + 1) (length row)
          ∙ ap (range_with_len (first + 1)) (sym one_more);
      rests = ap (λ (w : List (List PeerState)). map (drop 1) w ++ behind) n.put
          ∙ ap (λ (w : List (List PeerState)). w ++ behind) (map-append (drop 1) done ((n.twin ∷ n.left) ∷ []))
          ∙ append_assoc (map (drop 1) done) (n.left ∷ []) behind
          ∙ ap (λ (w : List (List PeerState)). map (drop 1) done ++ w) (sym n.shorter)
          ∙ o.rests;
      count = counted (length row) (length next) o.count one_more;
      total = totalled (length row) (length next) (length rows) (length behind) (length whole) one_more
          (ap length n.shorter) o.total;
    }
  where
    one_more : length next ≡ suc (length row)
    one_more = ap length n.longer ∙ length-append row (n.one ∷ []) ∙ last_one (length row)
      where
        last_one : (k : ℕ) → k + 1 ≡ suc k
        last_one k = omega arith

    turned : (f k l x : ℕ) → l ≡ f + k → x ≡ l + 1 → x ≡ f + 1 + k
    turned f k l x e g = omega (arith, e, g)

    counted : (k j : ℕ) → last ≡ first + k → j ≡ suc k → last + 1 ≡ first + j
    counted k j e g = omega (arith, e, g)

    totalled : (k j r b w : ℕ) → j ≡ suc k → r ≡ suc b → k + r ≡ w → j + b ≡ w
    totalled k j r b w e f g = omega (arith, e, f, g)

pub opens_first : (first last : ℕ) (lost : Loss) (whole : List (List PeerState)) (row : List PeerState)
    (rows done : List (List PeerState)) → Opens first lost whole row rows done last → length rows ≡ 0
    → OpensFirst first lost whole row done
opens_first first last lost whole row [] done o none =
    record {
      paired = o.paired;
      sites = o.in_order ∙ ap (range_with_len (first + 1)) (same (length row) (length whole) o.total);
      rests = sym (append-nil (map (drop 1) done)) ∙ o.rests;
    }
  where
    same : (k w : ℕ) → k + 0 ≡ w → k ≡ w
    same k w e = omega (arith, e)
opens_first first last lost whole row (r ∷ rows) done o none = absurd (omega (arith, none))

-- ---- all rows so far

-- what a worker keeps for the others of so many sites from this one on
pub record IsFreshFrom (begin count site : ℕ) (lost : Loss) (row : List PeerState) : Type 0 where
  pub in_order : sites row ≡ others_from begin count site
  pub fresh : AllByRecursion (λ (p : PeerState). IsNewPeer site p.site PLACES lost p) row

-- the rows of so many sites, from this one on
abbrev pub AllFreshFrom : ℕ → ℕ → Loss → List (List PeerState) → Type 0
AllFreshFrom begin count lost rows =
    (place : ℕ) (row : List PeerState) → slice_get rows place ≡ Some row
    → IsFreshFrom begin count (begin + place) lost row

matches_weaker : {P : Type 0} (R S : P → P → Type 0) (row : List P) (rows : List (List P)) → ((p q : P) → R p q → S p q)
    → MatchesFirsts R row rows → MatchesFirsts S row rows
matches_weaker R S [] [] h m = tt
matches_weaker R S [] (x ∷ rows) h m = absurd m
matches_weaker R S (x ∷ row) [] h m = absurd m
matches_weaker R S (x ∷ row) ([] ∷ rows) h m = absurd m
matches_weaker R S (x ∷ row) ((y ∷ ys) ∷ rows) h m = (h x y m.0, matches_weaker R S row rows h m.1)

mine_fresh : (first : ℕ) (lost : Loss) (row : List PeerState) (rows : List (List PeerState))
    → MatchesFirsts (Paired first lost) row rows → AllByRecursion
    (λ (p : PeerState). IsNewPeer first p.site PLACES lost p) row
mine_fresh first lost [] rows m = tt
mine_fresh first lost (p ∷ row) [] m = absurd m
mine_fresh first lost (p ∷ row) ([] ∷ rows) m = absurd m
mine_fresh first lost (p ∷ row) ((q ∷ qs) ∷ rows) m = (m.0.mine, mine_fresh first lost row rows m.1)

module _ (first m : ℕ) (lost : Loss) where
  -- the row of a site behind the first, which it has something for in front now
  one_fresh : (site other : ℕ) (q : PeerState) (qs : List PeerState) → first < site → other ≡ site
      → IsNewPeer other first PLACES lost q → IsFreshFrom (first + 1) m site lost qs
      → IsFreshFrom first (suc m) site lost (q ∷ qs)
  one_fresh site other q qs below same f h =
      record {
        in_order = (λ i. is_first i ∷ h.in_order i) ∙ sym (first_kept first m site (differs first site below));
        fresh = (subst (λ (k : ℕ × ℕ). IsNewPeer k.0 k.1 PLACES lost q) (λ i. (same i, sym is_first i)) f, h.fresh);
      }
    where
      is_first : q.site ≡ first
      is_first = ap (λ (p : PeerState). p.site) f.nothing

      differs : (a b : ℕ) → a < b → a ≢ b
      differs a b l e = absurd (omega (arith, l, e))

  theirs_fresh : (k : ℕ) (row : List PeerState) (theirs rows : List (List PeerState))
      → MatchesFirsts (Paired first lost) row theirs → sites row ≡ range_with_len k (length rows)
      → map (drop 1) theirs ≡ rows → first < k
      → ((place : ℕ) (r : List PeerState) → slice_get rows place ≡ Some r
      → IsFreshFrom (first + 1) m (k + place) lost r)
      → (place : ℕ) (r : List PeerState) → slice_get theirs place ≡ Some r
      → IsFreshFrom first (suc m) (k + place) lost r
  theirs_fresh k [] [] rows p s d below h place r at = absurd (cc at)
  theirs_fresh k [] (t ∷ theirs) rows p s d below h place r at = absurd p
  theirs_fresh k (x ∷ row) [] rows p s d below h place r at = absurd p
  theirs_fresh k (x ∷ row) ([] ∷ theirs) rows p s d below h place r at = absurd p
  theirs_fresh k (x ∷ row) ((q ∷ qs) ∷ theirs) [] p s d below h place r at = absurd (cc d)
  theirs_fresh k (x ∷ row) ((q ∷ qs) ∷ theirs) (y ∷ rows) p s d below h zero r at =
      subst (λ (w : List PeerState). IsFreshFrom first (suc m) (k + 0) lost w) (same_Some (q ∷ qs) r at)
      (one_fresh (k + 0) x.site q qs (omega (arith, below)) (number ∙ right k) p.0.theirs
      (subst (λ (w : List PeerState). IsFreshFrom (first + 1) m (k + 0) lost w)
      (sym (same_head qs (map (drop 1) theirs) y rows d)) (h zero y refl)))
    where
      number : x.site ≡ k
      number = same_head x.site (sites row) k (range_with_len (k + 1) (length rows)) s

      right : (a : ℕ) → a ≡ a + 0
      right a = omega arith
  theirs_fresh k (x ∷ row) ((q ∷ qs) ∷ theirs) (y ∷ rows) p s d below h (suc place) r at =
      subst (λ (j : ℕ). IsFreshFrom first (suc m) j lost r) (sym (shift k place))
      (theirs_fresh (k + 1) row theirs rows p.1
      (same_tail x.site (sites row) k (range_with_len (k + 1) (length rows)) s)
      (same_tail qs (map (drop 1) theirs) y rows d) (omega (arith, below))
      (λ place' r' at'. subst (λ (j : ℕ). IsFreshFrom (first + 1) m j lost r') (shift k place') (h (suc place') r' at'))
      place r at)
    where
      shift : (a b : ℕ) → a + suc b ≡ a + 1 + b
      shift a b = omega arith

pub record Opened (begin count : ℕ) (lost : Loss) (rows : List (List PeerState)) : Type 0 where
  pub all : length rows ≡ count
  pub linked : AllMatch AreLinked count rows
  pub fresh : AllFreshFrom begin count lost rows

pub opened_more : (first count : ℕ) (lost : Loss) (rows theirs whole : List (List PeerState)) (row : List PeerState)
    → whole ≡ row ∷ theirs → OpensFirst first lost rows row theirs → Opened (first + 1) count lost rows
    → Opened first (suc count) lost whole
opened_more first count lost rows theirs whole row is o h =
    subst (Opened first (suc count) lost) (sym is) (record {
      all = ap suc (sym (rows_of theirs) ∙ ap length o.rests ∙ h.all);
      linked = (
        matches_weaker (Paired first lost) AreLinked row theirs (λ p q w. w.linked) o.paired,
        subst (AllMatch AreLinked count) (sym o.rests) h.linked,
      );
      fresh = fresh;
    })
  where
    rows_of : (xs : List (List PeerState)) → length (map (drop 1) xs) ≡ length xs
    rows_of [] = refl
    rows_of (x ∷ xs) = ap suc (rows_of xs)

    numbered : sites row ≡ range_with_len (first + 1) count
    numbered = o.sites ∙ ap (range_with_len (first + 1)) h.all

    fresh : AllFreshFrom first (suc count) lost (row ∷ theirs)
    fresh zero r at =
        subst (λ (w : List PeerState). IsFreshFrom first (suc count) (first + 0) lost w) (same_Some row r at)
        (subst (λ (j : ℕ). IsFreshFrom first (suc count) j lost row) (right first) (record {
          in_order = numbered ∙ sym (first_left first count);
          fresh = mine_fresh first lost row theirs o.paired;
        }))
      where
        right : (a : ℕ) → a ≡ a + 0
        right a = omega arith
    fresh (suc place) r at =
        subst (λ (j : ℕ). IsFreshFrom first (suc count) j lost r) (sym (shift first place))
        (theirs_fresh first count lost (first + 1) row theirs rows o.paired o.sites o.rests (omega arith) h.fresh
        place r at)
      where
        shift : (a b : ℕ) → a + suc b ≡ a + 1 + b
        shift a b = omega arith

pub opened_none : (begin : ℕ) (lost : Loss) → Opened begin 0 lost []
opened_none begin lost = record { all = refl; linked = tt; fresh = λ place row at. absurd (cc at) }

-- the row of one more site in front
pub opened_before : (before first n : ℕ) (lost : Loss) (rows whole : List (List PeerState)) → 0 < before → first
    ≡ before
    → before + length rows ≡ n → Opened (before + 1) (length rows) lost rows
    → (row : List PeerState) × (theirs : List (List PeerState)) × (whole ≡ row ∷ theirs)
    × OpensFirst first lost rows row theirs
    → (before - 1 + length whole ≡ n) × Opened (before - 1 + 1) (length whole) lost whole
opened_before before first n lost rows whole some same count h f =
    let o : Opened first (suc (length rows)) lost whole =
    opened_more first (length rows) lost rows f.1 whole f.0 f.2 f.3
    (subst (λ (k : ℕ). Opened (k + 1) (length rows) lost rows) (sym same) h) in
    let one : first ≡ before - 1 + 1 = omega (arith, some, same) in
    let all : length whole ≡ suc (length rows) = o.all in (
      omega (arith, some, all, count),
      subst (λ (v : ℕ × ℕ). Opened v.0 v.1 lost whole) (λ i. (one i, sym all i)) o,
    )

-- all are opened
pub fresh_rows : (before n : ℕ) (lost : Loss) (rows : List (List PeerState)) → before ≡ 0 → before + length rows ≡ n
    → Opened (before + 1) (length rows) lost rows → AreFreshRows n lost rows
fresh_rows before n lost rows none count h =
    let all : length rows ≡ n = omega (arith, none, count) in
    record {
      all = all;
      each = λ place row at.
          let f = (subst (λ (v : ℕ × ℕ). Opened v.0 v.1 lost rows) (λ i. (one i, all i)) h).fresh place row at in
          subst (λ (site : ℕ). IsFreshRow n site lost row) (turned place)
          (record { sites = f.in_order; fresh = f.fresh });
    }
  where
    one : before + 1 ≡ 1
    one = omega (arith, none)

    turned : (a : ℕ) → 1 + a ≡ a + 1
    turned a = omega arith
