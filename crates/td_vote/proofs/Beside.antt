-- Holds in the order of their places: those that overlap a slot, or contain it, stand next to its place.
use Rattle.std.proofs.Common.{◌≡◌, ◌⊎◌, ◌<◌, ◌≤◌, ◌+◌, ◌-◌, ◌||◌, ℕ, zero, suc, List, [], ◌∷◌, Bool}
use Rattle.std.proofs.Common.{true, false, Option, Some, None, length, get_or, take, drop, refl, sym, ap, ◌∙◌}
use Rattle.std.proofs.Common.{subst, inl, inr, ⊎_elim, arith, true≢false, not, length-drop}
use Rattle.std.proofs.lemmas.Bool.{or_left, or_right, or_cases, cases_lt}
use Rattle.std.proofs.lemmas.List.{get_or-take, get_or-drop, length-take-le}
use Rattle.std.proofs.lemmas.List.Elements.{All-from_recursion}
use Rattle.std.specs.List.{AllWithin, slice_range}
use Rattle.std.specs.List.Sorted.{IsPartitionedBy, IsPartitionPoint}
use Rattle.std.specs.Option.{is_some, option_map}
use Rattle.td_base.specs.declared.bit.Bit.{Bit}
use Rattle.td_base.specs.Value.{AtomIdValue}
use Rattle.td_base.specs.Lists.{In, Successive}
use Rattle.td_base.proofs.Lists.{In-filter, any_from}
use Rattle.td_base.proofs.Searches.{In-take, In-drop}
use Rattle.td_path.specs.Slot.{same_slot, is_root}
use Rattle.td_path.specs.SlotPaths.{slot_contains}
use Rattle.td_path.specs.declared.slot.Slot.{Slot}
use Rattle.td_path.specs.declared.slot.Slot.TheVariants.{Root, At}
use Rattle.td_path.specs.declared.slot_path.SlotPath.{SlotPath}
use Rattle.td_path.specs.declared.slot_path.SlotPath.TheVariants.{Below}
use Rattle.td_doc.specs.Document.{DocRow, IsDocument, find_row}
use Rattle.td_doc.specs.Slots.{slot_path, rows_below, is_within, contains_slot, overlaps}
use Rattle.td_doc.proofs.Rules.{in_found}
use Rattle.td_doc.proofs.SubtreeRows.{row_of}
use Rattle.td_machine.specs.Hold.{Hold}
use Rattle.td_vote.specs.ByPlace.{place_before, AreInPlace, IsBeside, AreOverlapping}
use Rattle.td_vote.proofs.Between.{at_rows, contains_parts, contains_later, contains_earlier, either_way}

-- ---- slots of what is no row

row_in : (rows : List DocRow) (x : AtomIdValue) (o : Option SlotPath) → is_some (find_row x (rows_below rows o)) ≡ true
    → is_some (find_row x rows) ≡ true
row_in rows x None h = absurd (true≢false (sym h))
row_in rows x (Some s) h =
    let r = row_of x (rows_below rows (Some s)) h in
    subst (λ (y : AtomIdValue). is_some (find_row y rows) ≡ true) r.2
    (in_found r.0 rows (In-filter (λ (q : DocRow). slot_contains s q.path) r.0 rows r.1).0)

pub within_row : (rows : List DocRow) (x : AtomIdValue) (s : Slot) → is_within rows x s ≡ true
    → is_some (find_row x rows) ≡ true
within_row rows x s h = row_in rows x (slot_path rows s) h

module _ (rows : List DocRow) (d : IsDocument rows) where
  nobody_in : (x : AtomIdValue) (y : AtomIdValue) (c : Bit) → find_row y rows ≡ None → is_within rows x (At y c) ≡ false
  nobody_in x y c e =
      ap (λ (o : Option DocRow).
      is_some (find_row x (rows_below rows (option_map (λ (q : DocRow). Below q.path c) o)))) e

  -- ---- what stands between a slot and one that overlaps it

  pub left_contains : (h k s : Slot) → place_before rows h k ≡ true → place_before rows k s ≡ true
      → contains_slot rows h s ≡ true → overlaps rows h k ≡ true
  left_contains h k s a b c =
      or_left (contains_slot rows h k) (contains_slot rows k h) (contains_later rows d h k s a b c)

  pub left_overlaps : (h k s : Slot) → place_before rows h k ≡ true → place_before rows k s ≡ true
      → overlaps rows h s ≡ true → (overlaps rows h k ≡ true) ⊎ (overlaps rows k s ≡ true)
  left_overlaps h k s a b c =
      ⊎_elim (λ (g : contains_slot rows h s ≡ true). inl (left_contains h k s a b g))
      (λ (g : contains_slot rows s h ≡ true).
      inr (or_right (contains_slot rows k s) (contains_slot rows s k) (contains_earlier rows d h k s a b g)))
      (or_cases (contains_slot rows h s) (contains_slot rows s h) c)

  -- a slot that is not behind another: it is the root, or before it, or that one, or its atom is no row
  abbrev NotBehind : Slot → Slot → Type 0
  NotBehind k s = (s ≡ Root) ⊎ ((place_before rows s k ≡ true) ⊎ ((k ≡ s)
      ⊎ ((y : AtomIdValue) × (c : Bit) × (s ≡ At y c) × (find_row y rows ≡ None))))

  not_behind : (k h s : Slot) → place_before rows k h ≡ true → place_before rows k s ≡ false → NotBehind k s
  not_behind k h Root a b = inl refl
  not_behind k h (At y c) a b = at (find_row y rows) refl
    where
      at : (o : Option DocRow) → find_row y rows ≡ o → NotBehind k (At y c)
      at None e = inr (inr (inr (y, c, refl, e)))
      at (Some q) e =
          let p = at_rows rows d k h a in
          ⊎_elim
          (λ (g : place_before rows (At y c) (At p.x p.b) ≡ true).
          inr (inl (ap (place_before rows (At y c)) p.first ∙ g)))
          (λ (g : At p.x p.b ≡ At y c). inr (inr (inl (p.first ∙ g))))
          (either_way rows d p.x p.b y c p.r q p.first_row e
          (ap (λ (t : Slot). place_before rows t (At y c)) (sym p.first) ∙ b))

  -- no slot at a row contains one at none, nor is in it
  no_row : (x : AtomIdValue) (b : Bit) (y : AtomIdValue) (c : Bit) (r : DocRow) → find_row x rows ≡ Some r
      → find_row y rows ≡ None → (contains_slot rows (At x b) (At y c) ≡ true → ⊥)
      × (contains_slot rows (At y c) (At x b) ≡ true → ⊥)
  no_row x b y c r e f = (
    λ h. ⊎_elim (λ (same : (x ≡ y) × (b ≡ c)). differ same.0)
        (λ (i : is_within rows y (At x b) ≡ true).
        true≢false (sym (within_row rows y (At x b) i) ∙ ap is_some f))
        (contains_parts rows d x b y c h),
    λ h. ⊎_elim (λ (same : (y ≡ x) × (c ≡ b)). differ (sym same.0))
        (λ (i : is_within rows x (At y c) ≡ true). true≢false (sym i ∙ nobody_in x y c f))
        (contains_parts rows d y c x b h),
  )
    where
      differ : x ≡ y → ⊥
      differ g = none (sym e ∙ ap (λ (z : AtomIdValue). find_row z rows) g ∙ f)
        where
          none : Some r ≡ None → ⊥
          none h = cc

  contains_root : (p : Slot) → is_root p ≡ true → (t : Slot) → contains_slot rows p t ≡ true
  contains_root Root e t = or_left (same_slot Root t || true) _ (or_right (same_slot Root t) true refl)
  contains_root (At x b) e t = absurd (true≢false (sym e))

  none_contains_root : (x : AtomIdValue) (b : Bit) → contains_slot rows (At x b) Root ≡ true → ⊥
  none_contains_root x b h = true≢false (sym h)

  pub right_contains : (k h s : Slot) → place_before rows k h ≡ true → place_before rows k s ≡ false
      → contains_slot rows h s ≡ true → overlaps rows k h ≡ true
  right_contains k h s a b c =
      let p = at_rows rows d k h a in
      ⊎_elim (λ (e : s ≡ Root). absurd (none_contains_root p.y p.c
      ((λ i. contains_slot rows (sym p.second i) (sym e i)) ∙ c)))
      (λ (g : (place_before rows s k ≡ true) ⊎ ((k ≡ s)
      ⊎ ((y : AtomIdValue) × (c : Bit) × (s ≡ At y c) × (find_row y rows ≡ None)))).
      ⊎_elim (λ (e : place_before rows s k ≡ true).
      or_right (contains_slot rows k h) (contains_slot rows h k) (contains_earlier rows d s k h e a c))
      (λ (g : (k ≡ s) ⊎ ((y : AtomIdValue) × (c : Bit) × (s ≡ At y c) × (find_row y rows ≡ None))).
      ⊎_elim (λ (e : k ≡ s).
      or_right (contains_slot rows k h) (contains_slot rows h k) (ap (contains_slot rows h) e ∙ c))
      (λ (e : (y : AtomIdValue) × (c : Bit) × (s ≡ At y c) × (find_row y rows ≡ None)).
      absurd ((no_row p.y p.c e.0 e.1 p.q p.second_row e.3).0
      ((λ i. contains_slot rows (sym p.second i) (sym e.2 i)) ∙ c))) g) g)
      (not_behind k h s a b)

  right_inside : (k h s : Slot) → place_before rows k h ≡ true → place_before rows k s ≡ false
      → contains_slot rows s h ≡ true → (overlaps rows k h ≡ true) ⊎ (overlaps rows k s ≡ true)
  right_inside k h s a b c =
      let p = at_rows rows d k h a in
      ⊎_elim (λ (e : s ≡ Root). inr (or_right (contains_slot rows k s) (contains_slot rows s k)
      (contains_root s (ap is_root e) k)))
      (λ (g : (place_before rows s k ≡ true) ⊎ ((k ≡ s)
      ⊎ ((y : AtomIdValue) × (c : Bit) × (s ≡ At y c) × (find_row y rows ≡ None)))).
      ⊎_elim (λ (e : place_before rows s k ≡ true).
      inr (or_right (contains_slot rows k s) (contains_slot rows s k) (contains_later rows d s k h e a c)))
      (λ (g : (k ≡ s) ⊎ ((y : AtomIdValue) × (c : Bit) × (s ≡ At y c) × (find_row y rows ≡ None))).
      ⊎_elim (λ (e : k ≡ s).
      inl (or_left (contains_slot rows k h) (contains_slot rows h k) (ap (λ (t : Slot). contains_slot rows t h) e ∙ c)))
      (λ (e : (y : AtomIdValue) × (c : Bit) × (s ≡ At y c) × (find_row y rows ≡ None)).
      absurd ((no_row p.y p.c e.0 e.1 p.q p.second_row e.3).1
      ((λ i. contains_slot rows (sym e.2 i) (sym p.second i)) ∙ c))) g) g)
      (not_behind k h s a b)

  pub right_overlaps : (k h s : Slot) → place_before rows k h ≡ true → place_before rows k s ≡ false
      → overlaps rows h s ≡ true → (overlaps rows k h ≡ true) ⊎ (overlaps rows k s ≡ true)
  right_overlaps k h s a b c =
      ⊎_elim (λ (g : contains_slot rows h s ≡ true). inl (right_contains k h s a b g))
      (λ (g : contains_slot rows s h ≡ true). right_inside k h s a b g)
      (or_cases (contains_slot rows h s) (contains_slot rows s h) c)

-- ---- elements by their places in a list

module _ {X : Type 0} where
  pub record IndexOf (x : X) (xs : List X) : Type 0 where
    pub place : ℕ
    pub below : place < length xs
    pub is : (d : X) → get_or xs place d ≡ x

  pub index_of : (x : X) (xs : List X) → In x xs → IndexOf x xs
  index_of x [] i = absurd i
  index_of x (y ∷ xs) (inl e) = record { place = zero; below = omega arith; is = λ d. sym e }
  index_of x (y ∷ xs) (inr i) =
      let k = index_of x xs i in
      record { place = suc k.place; below = omega (arith, k.below); is = k.is }

  pub part_has : (xs : List X) (from n k : ℕ) (d : X) → from ≤ k → k < from + n → k < length xs
      → In (get_or xs k d) (take n (drop from xs))
  part_has [] from n k d a b c = absurd (omega arith)
  part_has (x ∷ xs) zero zero k d a b c = absurd (omega arith)
  part_has (x ∷ xs) zero (suc n) zero d a b c = inl refl
  part_has (x ∷ xs) zero (suc n) (suc k) d a b c =
      inr (part_has xs zero n k d (omega arith) (omega arith) (omega arith))
  part_has (x ∷ xs) (suc from) n zero d a b c = absurd (omega arith)
  part_has (x ∷ xs) (suc from) n (suc k) d a b c = part_has xs from n k d (omega arith) (omega arith) (omega arith)

  pub successive_at : (R : X → X → Type 0) (xs : List X) → Successive R xs → (i j : ℕ) (d : X) → i < j → j < length xs
      → R (get_or xs i d) (get_or xs j d)
  successive_at R [] s i j d a b = absurd (omega arith)
  successive_at R (x ∷ xs) s zero zero d a b = absurd (omega arith)
  successive_at R (x ∷ xs) s zero (suc j) d a b = All-from_recursion (R x) xs s.0 j d (omega arith)
  successive_at R (x ∷ xs) s (suc i) zero d a b = absurd (omega arith)
  successive_at R (x ∷ xs) s (suc i) (suc j) d a b = successive_at R xs s.1 i j d (omega arith) (omega arith)

-- what is read at a place of a list is there, whatever else would be read past the end
one_default : {X : Type 0} (xs : List X) (k : ℕ) (d e : X) → k < length xs → get_or xs k d ≡ get_or xs k e
one_default [] k d e h = absurd (omega arith)
one_default (x ∷ xs) zero d e h = refl
one_default (x ∷ xs) (suc k) d e h = one_default xs k d e (omega arith)

-- ---- the holds next to the place of a slot

abbrev nothing : Hold
nothing = record { proposal = record { site = 0; seq = 0 }; slot = Root }

module _ (rows : List DocRow) (d : IsDocument rows) (s : Slot) (holds : List Hold) (order : AreInPlace rows holds)
    (apart : Successive (λ (g h : Hold). overlaps rows g.slot h.slot ≡ false) holds) where
  abbrev at : ℕ → Hold
  at k = get_or holds k nothing

  abbrev Meets : Hold → Type 0
  Meets h = overlaps rows h.slot s ≡ true

  no_overlap : (j k : ℕ) → j < k → k < length holds → overlaps rows (at j).slot (at k).slot ≡ true → ⊥
  no_overlap j k a b h = true≢false (sym h ∙ successive_at (λ (g h : Hold). overlaps rows g.slot h.slot ≡ false) holds
      apart j k nothing a b)

  in_order : (j k : ℕ) → j < k → k < length holds → place_before rows (at j).slot (at k).slot ≡ true
  in_order j k a b = successive_at (λ (g h : Hold). place_before rows g.slot h.slot ≡ true) holds order j k nothing a b

  module _ (i : ℕ) (le : i ≤ length holds)
      (before : AllWithin (λ (h : Hold). place_before rows h.slot s ≡ true) holds 0 i)
      (behind : AllWithin (λ (h : Hold). place_before rows h.slot s ≡ false) holds i (length holds)) where
    -- of those before the place, and of those behind it, the one that is nearer overlaps the slot too
    meets_left : (j k : ℕ) → j < k → k < i → Meets (at j) → Meets (at k)
    meets_left j k a b h =
        ⊎_elim (λ (g : overlaps rows (at j).slot (at k).slot ≡ true). absurd (no_overlap j k a (omega arith) g))
        (λ (g : Meets (at k)). g)
        (left_overlaps rows d (at j).slot (at k).slot s (in_order j k a (omega arith))
        (before k nothing (omega arith) b) h)

    meets_right : (j k : ℕ) → i ≤ j → j < k → k < length holds → Meets (at k) → Meets (at j)
    meets_right j k l a b h =
        ⊎_elim (λ (g : overlaps rows (at j).slot (at k).slot ≡ true). absurd (no_overlap j k a b g))
        (λ (g : Meets (at j)). g)
        (right_overlaps rows d (at j).slot (at k).slot s (in_order j k a b)
        (behind j nothing l (omega arith)) h)

    near_contains : (k : ℕ) → k < length holds → contains_slot rows (at k).slot s ≡ true → (i ≤ k + 1) × (k ≤ i)
    near_contains k b h =
        ⊎_elim
        (λ (a : k + 1 < i).
        absurd (no_overlap k (i - 1) (omega arith) (omega arith) (left_contains rows d (at k).slot (at (i - 1)).slot s
        (in_order k (i - 1) (omega arith) (omega arith)) (before (i - 1) nothing (omega arith) (omega arith)) h)))
        (λ (a : i ≤ k + 1).
        ⊎_elim
        (λ (c : i < k).
        absurd (no_overlap i k c b (right_contains rows d (at i).slot (at k).slot s (in_order i k c b)
        (behind i nothing (omega arith) (omega arith)) h)))
        (λ (c : k ≤ i). (a, c)) (cases_lt i k))
        (cases_lt (k + 1) i)

    near_meets : (k : ℕ) → k < length holds → Meets (at k) → (j : ℕ) × (i ≤ j + 1) × (j ≤ i) × (j < length holds)
        × Meets (at j)
    near_meets k b h =
        ⊎_elim
        (λ (a : k + 1 < i).
        (i - 1, omega arith, omega arith, omega arith, meets_left k (i - 1) (omega arith) (omega arith) h))
        (λ (a : i ≤ k + 1).
        ⊎_elim (λ (c : i < k). (i, omega arith, omega arith, omega arith, meets_right i k (omega arith) c b h))
        (λ (c : k ≤ i). (k, a, c, b, h)) (cases_lt i k))
        (cases_lt (k + 1) i)

    in_part : (from to k : ℕ) → from ≤ k → k < to → k < length holds → In (at k) (slice_range holds from to)
    in_part from to k a b c = part_has holds from (to - from) k nothing a (omega arith) c

    pub beside_is : (from to : ℕ) → from ≤ i - 1 → (i < length holds → i < to) → i ≤ to
        → IsBeside rows s holds (slice_range holds from to)
    beside_is from to a b e = record {
      inside = λ h m. In-drop h from holds (In-take h (to - from) (drop from holds) m);
      contains = λ h m c.
          let k = index_of h holds m in
          let near =
          near_contains k.place k.below (ap (λ (g : Hold). contains_slot rows g.slot s) (k.is nothing) ∙ c) in
          subst (λ (g : Hold). In g (slice_range holds from to)) (k.is nothing)
          (in_part from to k.place (low k.place near.0) (high k.place near.1 k.below) k.below);
      overlap = λ h m c.
          let k = index_of h holds m in
          let near = near_meets k.place k.below (ap (λ (g : Hold). overlaps rows g.slot s) (k.is nothing) ∙ c) in
          any_from (λ (g : Hold). overlaps rows g.slot s) (slice_range holds from to) (at near.0)
          (in_part from to near.0 (low near.0 near.1) (high near.0 near.2 near.3) near.3) near.4;
    }
      where
        low : (k : ℕ) → i ≤ k + 1 → from ≤ k
        low k h = omega arith

        high : (k : ℕ) → k ≤ i → k < length holds → k < to
        high k h l = ⊎_elim (λ (c : i < length holds). let past = b c in omega arith)
            (λ (c : length holds ≤ i). omega arith) (cases_lt i (length holds))

    -- ---- those that overlap the slot

    abbrev left : List Hold
    left = take i holds

    abbrev right : List Hold
    right = drop i holds

    abbrev meets : Hold → Bool
    meets h = overlaps rows h.slot s

    left_long : length left ≡ i
    left_long = length-take-le i holds le

    right_long : length right ≡ length holds - i
    right_long = length-drop i holds

    left_at : (k : ℕ) (e : Hold) → k < i → get_or left k e ≡ at k
    left_at k e h = get_or-take i holds k e h ∙ one_default holds k e nothing (omega arith)

    right_at : (k : ℕ) (e : Hold) → k < length right → get_or right k e ≡ at (i + k)
    right_at k e h = get_or-drop i holds k e ∙ one_default holds (i + k) e nothing (omega (arith, right_long))

    not_meets : (a b : Bool) → (a ≡ true → b ≡ true) → not b ≡ true → not a ≡ true
    not_meets true true h k = k
    not_meets true false h k = absurd (true≢false (sym (h refl)))
    not_meets false b h k = refl

    same_or_before : (j k : ℕ) → j ≤ k → (j < k) ⊎ (j ≡ k)
    same_or_before j k h = ⊎_elim (λ (a : j < k). inl a) (λ (a : k ≤ j). inr (omega arith)) (cases_lt j k)

    pub left_parted : IsPartitionedBy (λ (h : Hold). not (meets h)) left
    left_parted j k e a b h =
        let there : k < i = omega (arith, left_long) in
        ap (λ (g : Hold). not (meets g)) (left_at j e (omega arith))
        ∙ not_meets (meets (at j)) (meets (at k))
        (⊎_elim (λ (l : j < k). meets_left j k l there) (λ (l : j ≡ k). λ g. subst (λ (n : ℕ). Meets (at n)) l g)
        (same_or_before j k a))
        (ap (λ (g : Hold). not (meets g)) (sym (left_at k e there)) ∙ h)

    pub right_parted : IsPartitionedBy meets right
    right_parted j k e a b h =
        let there : k < length holds - i = omega (arith, right_long) in
        ap meets (right_at j e (omega arith))
        ∙ ⊎_elim
        (λ (l : j < k). meets_right (i + j) (i + k) (omega arith) (omega arith) (omega arith)
        (ap meets (sym (right_at k e b)) ∙ h))
        (λ (l : j ≡ k). ap (λ (n : ℕ). meets (at (i + n))) l ∙ (ap meets (sym (right_at k e b)) ∙ h))
        (same_or_before j k a)

    pub overlapping_is : (from more : ℕ) → from ≤ length left → more ≤ length right
        → IsPartitionPoint (λ (h : Hold). not (meets h) ≡ true) (λ (h : Hold). not (meets h) ≡ false) left from
        → IsPartitionPoint (λ (h : Hold). meets h ≡ true) (λ (h : Hold). meets h ≡ false) right more
        → AreOverlapping rows s holds (slice_range holds from (i + more))
    overlapping_is from more a b p q = record {
      inside = λ h m.
          let there : In h holds =
          In-drop h from holds (In-take h (i + more - from) (drop from holds) m) in
          let k = index_of h (slice_range holds from (i + more)) m in
          let long : k.place < i + more - from = taken_below k.place (i + more - from) (drop from holds) k.below in
          let is : at (from + k.place) ≡ h =
          sym (get_or-drop from holds k.place nothing)
          ∙ sym (get_or-take (i + more - from) (drop from holds) k.place nothing long) ∙ k.is nothing in
          (there, ap meets (sym is) ∙ met (from + k.place) (omega arith) (omega arith));
      every = λ h m c.
          let k = index_of h holds m in
          let here : Meets (at k.place) = ap meets (k.is nothing) ∙ c in
          subst (λ (g : Hold). In g (slice_range holds from (i + more))) (k.is nothing)
          (in_part from (i + more) k.place (not_less k.place here) (not_past k.place k.below here) k.below);
    }
      where
        taken_below : (k n : ℕ) (xs : List Hold) → k < length (take n xs) → k < n
        taken_below k zero xs h = absurd (omega arith)
        taken_below k (suc n) [] h = absurd (omega arith)
        taken_below zero (suc n) (x ∷ xs) h = omega arith
        taken_below (suc k) (suc n) (x ∷ xs) h = let r = taken_below k n xs (omega arith) in omega arith

        met : (k : ℕ) → from ≤ k → k < i + more → Meets (at k)
        met k l h =
            ⊎_elim
            (λ (c : k < i).
            not_false (meets (at k))
            (ap (λ (g : Hold). not (meets g)) (sym (left_at k nothing c)) ∙ p.1 k nothing l (omega (arith, left_long))))
            (λ (c : i ≤ k).
            let there : k - i < length right = omega (arith, b) in
            let same : i + (k - i) ≡ k = omega arith in
            ap (λ (n : ℕ). meets (at n)) (sym same)
            ∙ ap meets (sym (right_at (k - i) nothing there)) ∙ q.0 (k - i) nothing (omega arith) (omega arith))
            (cases_lt k i)
          where
            not_false : (t : Bool) → not t ≡ false → t ≡ true
            not_false true g = refl
            not_false false g = absurd (true≢false g)

        not_less : (k : ℕ) → Meets (at k) → from ≤ k
        not_less k h =
            ⊎_elim
            (λ (c : k < from).
            let there : k < i = omega (arith, left_long) in
            let none : not (meets (at k)) ≡ true =
            ap (λ (g : Hold). not (meets g)) (sym (left_at k nothing there)) ∙ p.0 k nothing (omega arith) c in
            absurd (true≢false (sym none ∙ ap not h)))
            (λ (c : from ≤ k). c) (cases_lt k from)

        not_past : (k : ℕ) → k < length holds → Meets (at k) → k < i + more
        not_past k l h =
            ⊎_elim (λ (c : k < i + more). c)
            (λ (c : i + more ≤ k).
            let there : k - i < length right = omega (arith, right_long) in
            let same : i + (k - i) ≡ k = omega arith in
            let none : meets (at k) ≡ false =
            ap (λ (n : ℕ). meets (at n)) (sym same) ∙ ap meets (sym (right_at (k - i) nothing there))
            ∙ q.1 (k - i) nothing (omega arith) there in
            absurd (true≢false (sym h ∙ none)))
            (cases_lt k (i + more))
