-- A walk over the rows finds the largest candidates on one side of an atom.
use Rattle.std.proofs.Common.{◌≡◌, ◌≤◌, ◌<◌, ◌+◌, ◌-◌, ℕ, suc, List, [], ◌∷◌, ◌++◌, Bool, true, false, ◌&&◌, ◌||◌, not}
use Rattle.std.proofs.Common.{if◌then◌else◌, length, take, drop, map, Option, Some, None, get_or, refl, sym, ap, ◌∙◌}
use Rattle.std.proofs.Common.{subst, inl, inr, ⊎_elim, true≢false, append_assoc, length-append, add-one, arith}
use Rattle.std.proofs.lemmas.Bool.{or_left, or_right}
use Rattle.std.proofs.lemmas.List.{append-nil, length-map, take_all}
use Rattle.std.specs.Prelude.{slice_get}
use Rattle.std.specs.Option.{option_map}
use Rattle.td_base.specs.declared.bit.Bit.{Bit}
use Rattle.td_base.specs.declared.bit.Bit.TheVariants.{Left, Right}
use Rattle.td_base.specs.Lists.{In, Successive}
use Rattle.td_base.specs.Value.{AtomIdValue}
use Rattle.td_base.proofs.Equals.{same_id_refl, same_id_other}
use Rattle.td_base.proofs.Lists.{In-append, In-front, In-back, across}
use Rattle.td_path.specs.Slot.{same_slot, is_root}
use Rattle.td_path.specs.declared.slot.Slot.{Slot}
use Rattle.td_path.specs.declared.slot.Slot.TheVariants.{At}
use Rattle.td_path.specs.declared.slot_path.SlotPath.TheVariants.{Below}
use Rattle.td_path.proofs.SlotEquals.{same_slot_refl}
use Rattle.td_doc.specs.Document.{DocRow, row_id, find_row, is_empty_list, IsDocument}
use Rattle.td_doc.specs.Slots.{rows_below, is_empty_slot, is_within, is_known_row}
use Rattle.td_doc.proofs.PutRows.{Differ}
use Rattle.td_doc.proofs.Rules.{found}
use Rattle.td_machine.specs.Machine.{Machine}
use Rattle.td_idle.specs.declared.walk.Walk.{Walk}
use Rattle.td_idle.specs.Stable.{stable}
use Rattle.td_idle.specs.Unknown.{unknown_ids}
use Rattle.td_idle.specs.Best.{row_count}
use Rattle.td_idle.specs.Candidate.{is_held_over, is_candidate}
use Rattle.td_idle.specs.Walk.{HasTop, AreTops, AreTopsOn, along, IsListed, is_id}
use Rattle.td_idle.specs.Walk.{is_free_beside, IsAdded, IsPassed}
use Rattle.td_idle.proofs.Beside.{FirstUnknown, IsAhead, ahead, in_along, apart_along}
use Rattle.td_idle.proofs.Candidates.{free}
use Rattle.td_idle.proofs.Lists.{cut, get_behind, mapped_at, taken_first, taken_later}
use Rattle.td_idle.proofs.UnknownRows.{ids_known, ids_unknown, ids_append, first_of}

-- the walk stands behind so many rows, and has these tops
pub record Walked (m : Machine) (bit : Bit) (k : ℕ) (walk : Walk) (tops : List Slot) : Type 0 where
  pub passed : walk.passed ≡ length (unknown_ids (stable m) (take k (along bit m.doc)))
  pub candidates : (t : Slot) → In t tops → is_candidate m t ≡ true
  pub sides : (r : DocRow) → In r (take k (along bit m.doc)) → is_candidate m (At (row_id r) bit) ≡ true
      → HasTop m.doc tops (At (row_id r) bit)
  -- the next rows are in one of the tops
  pub inside : (q : DocRow) → In q (take walk.inside (drop k (along bit m.doc))) → HasTop m.doc tops (At (row_id q) bit)

-- ---- the unknown rows that were passed

module _ (v : List ℕ) (rows : List DocRow) (apart : Successive Differ rows) (k : ℕ) (r : DocRow)
    (at : slice_get rows k ≡ Some r)
  where
    abbrev front : List DocRow
    front = take k rows

    abbrev back : List DocRow
    back = drop (suc k) rows

    is : rows ≡ front ++ r ∷ back
    is = (cut rows k r at).is

    taken : take (k + 1) rows ≡ front ++ r ∷ []
    taken = (cut rows k r at).front

    parts : rows ≡ take (k + 1) rows ++ back
    parts = is ∙ (sym (append_assoc front (r ∷ []) back) ∙ ap (λ (xs : List DocRow). xs ++ back) (sym taken))

    -- behind so many unknown rows stands the first of the rest
    next_of : (xs ys : List DocRow) (n : ℕ) → rows ≡ xs ++ ys → n ≡ length (unknown_ids v xs)
        → slice_get (unknown_ids v rows) n ≡ slice_get (unknown_ids v ys) 0
    next_of xs ys n e p =
        (λ i. slice_get ((ap (unknown_ids v) e ∙ ids_append v xs ys) i) (p i))
        ∙ get_behind (unknown_ids v xs) (unknown_ids v ys)

    known_after : is_known_row v r ≡ true → unknown_ids v (take (k + 1) rows) ≡ unknown_ids v front ++ []
    known_after e =
        ap (unknown_ids v) taken
        ∙ (ids_append v front (r ∷ []) ∙ ap (λ (z : List AtomIdValue). unknown_ids v front ++ z) (ids_known v r [] e))

    unknown_after : is_known_row v r ≡ false → unknown_ids v (take (k + 1) rows) ≡ unknown_ids v front ++ row_id r ∷ []
    unknown_after e =
        ap (unknown_ids v) taken
        ∙ (ids_append v front (r ∷ []) ∙ ap (λ (z : List AtomIdValue). unknown_ids v front ++ z) (ids_unknown v r [] e))

    -- no row behind has its identity
    other : (o : Option AtomIdValue) → FirstUnknown v back o → is_id (row_id r) o ≡ false
    other None h = refl
    other (Some y) h =
        let u : DocRow = h.1 in
        let place : In u back = subst (λ (z : List DocRow). In u z) (sym h.3) (In-back u h.0 (u ∷ h.2) (inl refl)) in
        let differ : Successive Differ ((front ++ r ∷ []) ++ back) =
        subst (Successive Differ) (is ∙ sym (append_assoc front (r ∷ []) back)) apart in
        same_id_other y (row_id r)
        (λ (e : y ≡ row_id r).
        across Differ (front ++ r ∷ []) back differ r u (In-back r front (r ∷ []) (inl refl)) place (sym (h.4 ∙ e)))

    module _ (n : ℕ) (p : n ≡ length (unknown_ids v front)) where
      here : slice_get (unknown_ids v rows) n ≡ slice_get (unknown_ids v (r ∷ back)) 0
      here = next_of front (r ∷ back) n is p

      abbrev counted : Bool → ℕ
      counted b = if b then n + 1 else n

      by_row : (known : Bool) → is_known_row v r ≡ known
          → counted (is_id (row_id r) (slice_get (unknown_ids v rows) n)) ≡ length (unknown_ids v (take (k + 1) rows))
      by_row false e =
          let at_it : is_id (row_id r) (slice_get (unknown_ids v rows) n) ≡ true =
          ap (is_id (row_id r)) (here ∙ ap (λ (z : List AtomIdValue). slice_get z 0) (ids_unknown v r back e))
          ∙ same_id_refl (row_id r) in
          let long : length (unknown_ids v (take (k + 1) rows))
          ≡ length (unknown_ids v front ++ row_id r ∷ []) = ap length (unknown_after e) in
          let more : n + 1 ≡ length (unknown_ids v (take (k + 1) rows)) =
          omega (arith, p, long, length-append (unknown_ids v front) (row_id r ∷ [])) in
          ap counted at_it ∙ more
      by_row true e =
          let next : slice_get (unknown_ids v rows) n ≡ slice_get (unknown_ids v back) 0 =
          here ∙ ap (λ (z : List AtomIdValue). slice_get z 0) (ids_known v r back e) in
          let not_it : is_id (row_id r) (slice_get (unknown_ids v rows) n) ≡ false =
          ap (is_id (row_id r)) next ∙ other (slice_get (unknown_ids v back) 0) (first_of v back) in
          let long : length (unknown_ids v (take (k + 1) rows))
          ≡ length (unknown_ids v front ++ []) = ap length (known_after e) in
          let as_many : n ≡ length (unknown_ids v (take (k + 1) rows)) =
          omega (arith, p, long, length-append {A = AtomIdValue} (unknown_ids v front) []) in
          ap counted not_it ∙ as_many

      pub passed_next : counted (is_id (row_id r) (slice_get (unknown_ids v rows) n))
          ≡ length (unknown_ids v (take (k + 1) rows))
      passed_next = by_row (is_known_row v r) refl

      pub first_next : FirstUnknown v back (slice_get (unknown_ids v rows)
          (counted (is_id (row_id r) (slice_get (unknown_ids v rows) n))))
      first_next =
          subst (FirstUnknown v back)
          (sym (next_of (take (k + 1) rows) back (counted (is_id (row_id r) (slice_get (unknown_ids v rows) n))) parts
          passed_next))
          (first_of v back)

-- ---- one more row

module _ (m : Machine) (d : IsDocument m.doc) (bit : Bit) (k : ℕ) (r : DocRow)
    (at : slice_get (along bit m.doc) k ≡ Some r) (walk later : Walk) (tops more : List Slot)
    (w : Walked m bit k walk tops)
    (h : IsPassed m (unknown_ids (stable m) (along bit m.doc)) (row_id r) bit walk later tops more) where
  abbrev v : List ℕ
  v = stable m

  abbrev all : List DocRow
  all = along bit m.doc

  abbrev behind : List DocRow
  behind = drop (suc k) all

  abbrev side : Slot
  side = At (row_id r) bit

  abbrev next : Option AtomIdValue
  next = slice_get (unknown_ids v all) later.passed

  apart : Successive Differ all
  apart = apart_along bit m.doc d.apart

  behind_is : drop (k + 1) all ≡ behind
  behind_is = ap (λ (n : ℕ). drop n all) (add-one k)

  first : FirstUnknown v behind next
  first = subst (λ (n : ℕ). FirstUnknown v behind (slice_get (unknown_ids v all) n)) (sym h.passed)
      (first_next v all apart k r at walk.passed w.passed)

  side_ahead : IsAhead v m.doc bit r behind
  side_ahead = ahead v m.doc d bit (take k all) r behind (cut all k r at).is

  -- the tops behind the row
  record Sides : Type 0 where
    candidates : (t : Slot) → In t more → is_candidate m t ≡ true
    kept : (t : Slot) → HasTop m.doc tops t → HasTop m.doc more t
    here : is_candidate m side ≡ true → HasTop m.doc more side
    inside : (q : DocRow) → In q (take later.inside (drop (k + 1) all)) → HasTop m.doc more (At (row_id q) bit)

  skipped : 0 < walk.inside → later.inside ≡ walk.inside - 1 → more ≡ tops → Sides
  skipped some less same =
      let back : drop k all ≡ r ∷ behind = (cut all k r at).back in
      let kept : (t : Slot) → HasTop m.doc tops t → HasTop m.doc more t =
      λ t i. subst (λ (ts : List Slot). HasTop m.doc ts t) (sym same) i in
      record {
        candidates = λ t i. w.candidates t (subst (λ (ts : List Slot). In t ts) same i);
        kept = kept;
        here = λ _. kept side (w.inside r (subst (λ (z : List DocRow). In r (take walk.inside z)) (sym back)
            (taken_first r behind walk.inside some)));
        inside = λ q i. kept (At (row_id q) bit)
            (w.inside q (subst (λ (z : List DocRow). In q (take walk.inside z)) (sym back)
            (taken_later q r behind walk.inside later.inside some less
            (subst (λ (z : List DocRow). In q (take later.inside z)) behind_is i))));
      }

  free_is : is_free_beside m next side ≡ is_candidate m side
  free_is = ap (λ (b : Bool). not (is_empty_slot m.doc side) && b && not (is_held_over m side))
      (side_ahead.beside next first)

  added : IsAdded m next side tops more later.inside → Sides
  added a = by (is_candidate m side) refl
    where
      by : (b : Bool) → is_candidate m side ≡ b → Sides
      by true good =
          let is_free : is_free_beside m next side ≡ true = free_is ∙ good in
          let new : more ≡ tops ++ side ∷ [] =
          a.top ∙ ap (λ (b : Bool). tops ++ (if b then side ∷ [] else [])) is_free in
          let many : later.inside ≡ row_count m.doc side =
          a.many ∙ ap (λ (b : Bool). if b then row_count m.doc side else 0) is_free in
          let last : In side more =
          subst (λ (ts : List Slot). In side ts) (sym new) (In-back side tops (side ∷ []) (inl refl)) in
          record {
            candidates = λ t i.
                ⊎_elim (λ (j : In t tops). w.candidates t j)
                (λ (j : In t (side ∷ [])).
                ⊎_elim (λ (e : t ≡ side). ap (is_candidate m) e ∙ good) (λ (n : ⊥). absurd n) j)
                (In-append t tops (side ∷ []) (subst (λ (ts : List Slot). In t ts) new i));
            kept = λ t i.
                (i.0, subst (λ (ts : List Slot). In i.0 ts) (sym new) (In-front i.0 tops (side ∷ []) i.1), i.2);
            here = λ _. (
              side,
              last,
              or_left (same_slot side side || is_root side) _
                  (or_left (same_slot side side) _ (same_slot_refl side side refl)),
            );
            inside = λ q i. (
              side,
              last,
              or_right (same_slot side (At (row_id q) bit) || is_root side) (is_within m.doc (row_id q) side)
                  (side_ahead.next q
                  (subst (λ (n : ℕ). In q (take n behind)) many
                  (subst (λ (z : List DocRow). In q (take later.inside z)) behind_is i))),
            );
          }
      by false bad =
          let not_free : is_free_beside m next side ≡ false = free_is ∙ bad in
          let same : more ≡ tops =
          a.top ∙ (ap (λ (b : Bool). tops ++ (if b then side ∷ [] else [])) not_free ∙ append-nil tops) in
          let none : later.inside ≡ 0 =
          a.many ∙ ap (λ (b : Bool). if b then row_count m.doc side else 0) not_free in
          record {
            candidates = λ t i. w.candidates t (subst (λ (ts : List Slot). In t ts) same i);
            kept = λ t i. subst (λ (ts : List Slot). HasTop m.doc ts t) (sym same) i;
            here = λ good. absurd (true≢false (sym good ∙ bad));
            inside = λ q i. absurd (subst (λ (n : ℕ). In q (take n (drop (k + 1) all))) none i);
          }

  goes_on : Sides → Walked m bit (k + 1) later more
  goes_on s =
      record {
        passed = h.passed ∙ passed_next v all apart k r at walk.passed w.passed;
        candidates = s.candidates;
        sides = λ q i good.
            ⊎_elim
            (λ (j : In q (take k all)). s.kept (At (row_id q) bit) (w.sides q j good))
            (λ (j : In q (r ∷ [])). last q good j)
            (In-append q (take k all) (r ∷ []) (subst (λ (z : List DocRow). In q z) (cut all k r at).front i));
        inside = s.inside;
      }
    where
      last : (q : DocRow) → is_candidate m (At (row_id q) bit) ≡ true → In q (r ∷ [])
          → HasTop m.doc more (At (row_id q) bit)
      last q good (inl e) =
          subst (λ (z : DocRow). HasTop m.doc more (At (row_id z) bit)) (sym e)
          (s.here (subst (λ (z : DocRow). is_candidate m (At (row_id z) bit) ≡ true) e good))
      last q good (inr j) = absurd j

  pub one_more : Walked m bit (k + 1) later more
  one_more =
      goes_on (⊎_elim
      (λ (s : (0 < walk.inside) × (later.inside ≡ walk.inside - 1) × (more ≡ tops)). skipped s.0 s.1 s.2)
      (λ (a : IsAdded m next side tops more later.inside). added a)
      h.side)

-- the same, where the rows are listed
pub walked_next : (m : Machine) → IsDocument m.doc → (bit : Bit) (ids unknown : List AtomIdValue)
    → IsListed (stable m) (along bit m.doc) ids unknown → (k : ℕ) (x : AtomIdValue) → k < length ids
    → x ≡ get_or ids k x → (walk later : Walk) (tops more : List Slot) → Walked m bit k walk tops
    → IsPassed m unknown x bit walk later tops more → Walked m bit (k + 1) later more
walked_next m d bit ids unknown l k x within is walk later tops more w h =
    let at = mapped_at row_id (along bit m.doc) k x (subst (λ (z : List AtomIdValue). k < length z) l.all within)
    (is ∙ ap (λ (z : List AtomIdValue). get_or z k x) l.all) in
    one_more m d bit k at.0 at.1 walk later tops more w
    (subst (λ (y : AtomIdValue). IsPassed m (unknown_ids (stable m) (along bit m.doc)) y bit walk later tops more) at.2
    (subst (λ (z : List AtomIdValue). IsPassed m z x bit walk later tops more) l.some h))

-- ---- the whole walk

pub walked_none : (m : Machine) (bit : Bit) → Walked m bit 0 (record { passed = 0; inside = 0 }) []
walked_none m bit =
    record {
      passed = refl;
      candidates = λ t i. absurd i;
      sides = λ r i good. absurd i;
      inside = λ q i. absurd i;
    }

pub walked_all : (m : Machine) (bit : Bit) (ids : List AtomIdValue) → ids ≡ map row_id (along bit m.doc) → (k : ℕ)
    (walk : Walk) (tops : List Slot) → length ids ≤ k → Walked m bit k walk tops → AreTopsOn m bit tops
walked_all m bit ids is k walk tops long w =
    record { candidates = w.candidates; all = λ x good. at x good (find_row x m.doc) refl }
  where
    enough : length (along bit m.doc) ≤ k
    enough = subst (λ (n : ℕ). n ≤ k) (ap length is ∙ length-map (along bit m.doc) row_id) long

    at : (x : AtomIdValue) → is_candidate m (At x bit) ≡ true → (o : Option DocRow) → find_row x m.doc ≡ o
        → HasTop m.doc tops (At x bit)
    at x good None e =
        absurd (true≢false (sym (ap (λ (o : Option DocRow). is_empty_list
        (rows_below m.doc (option_map (λ (r : DocRow). Below r.path bit) o))) e)
        ∙ (free m (At x bit) good).some))
    at x good (Some r) e =
        let f = found x r m.doc e in
        subst (λ (y : AtomIdValue). HasTop m.doc tops (At y bit)) f.1
        (w.sides r
        (subst (λ (z : List DocRow). In r z) (sym (take_all k (along bit m.doc) enough)) (in_along bit m.doc r f.0))
        (subst (λ (y : AtomIdValue). is_candidate m (At y bit) ≡ true) (sym f.1) good))

-- those on either side
pub both_sides : (m : Machine) (lefts rights : List Slot) → AreTopsOn m Left lefts → AreTopsOn m Right rights
    → AreTops m (lefts ++ rights)
both_sides m lefts rights l r =
    record {
      candidates = λ t i.
          ⊎_elim (λ (j : In t lefts). l.candidates t j) (λ (j : In t rights). r.candidates t j)
          (In-append t lefts rights i);
      all = all;
    }
  where
    all : (x : AtomIdValue) (bit : Bit) → is_candidate m (At x bit) ≡ true → HasTop m.doc (lefts ++ rights) (At x bit)
    all x Left good = let h = l.all x good in (h.0, In-front h.0 lefts rights h.1, h.2)
    all x Right good = let h = r.all x good in (h.0, In-back h.0 lefts rights h.1, h.2)
