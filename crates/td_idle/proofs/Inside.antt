-- A slot within another has its rows there, and fewer.
use Rattle.std.proofs.Common.{◌≡◌, ◌≢◌, ◌⊎◌, ◌<◌, ◌≤◌, ℕ, suc, List, [], ◌∷◌, Bool, true, false, ◌||◌, if◌then◌else◌}
use Rattle.std.proofs.Common.{filter, length, refl, sym, ap, ◌∙◌, subst, inl, inr, ⊎_elim, true≢false, arith}
use Rattle.std.specs.Prelude.{is_some, Option, Some, None}
use Rattle.std.specs.Option.{option_map}
use Rattle.std.proofs.lemmas.Bool.{and_parts, and_from, or_left, or_right, or_cases, false_from_ne_true}
use Rattle.td_base.specs.declared.bit.Bit.{Bit}
use Rattle.td_base.specs.Value.{AtomIdValue}
use Rattle.td_base.specs.Lists.{In}
use Rattle.td_base.specs.Equality.{same_bit}
use Rattle.td_base.proofs.Lists.{In-filter, filter_In}
use Rattle.td_path.specs.Infix.{Pair, Pairs, same_pair}
use Rattle.td_path.specs.Slot.{same_slot, is_root}
use Rattle.td_path.specs.SlotPaths.{goes_on, slot_contains}
use Rattle.td_path.specs.declared.slot.Slot.{Slot}
use Rattle.td_path.specs.declared.slot.Slot.TheVariants.{Root, At}
use Rattle.td_path.specs.declared.slot_path.SlotPath.{SlotPath}
use Rattle.td_path.specs.declared.slot_path.SlotPath.TheVariants.{Root as Whole, Below}
use Rattle.td_path.proofs.InfixOrder.{same_pair_true}
use Rattle.td_path.proofs.SlotEquals.{same_slot_true}
use Rattle.td_path.proofs.SlotOverlap.{none_empty}
use Rattle.td_doc.specs.Document.{DocRow, find_row, is_empty_list, IsDocument}
use Rattle.td_doc.specs.Slots.{slot_path, rows_below, rows_in_slot, is_empty_slot, is_within, contains_slot}
use Rattle.td_doc.proofs.Rules.{found, in_found}
use Rattle.td_idle.specs.Best.{row_count}
use Rattle.td_doc.proofs.Flattened.{not_in_own_slots}
use Rattle.td_doc.proofs.SubtreeRows.{find_in, row_of}

-- ---- fewer pass a stronger test

abbrev one_if : Bool → ℕ → ℕ
one_if b n = if b then suc n else n

-- one more, where the test is passed
length_cons : {X : Type 0} (q : X → Bool) (x : X) (xs : List X) → length (filter q (x ∷ xs))
    ≡ one_if (q x) (length (filter q xs))
length_cons q x xs = at (q x)
  where
    at : (b : Bool) → length (if b then x ∷ filter q xs else filter q xs) ≡ one_if b (length (filter q xs))
    at true = refl
    at false = refl

one_le : (a b : Bool) (m n : ℕ) → (a ≡ true → b ≡ true) → m ≤ n → one_if a m ≤ one_if b n
one_le true true m n f h = omega (arith, h)
one_le true false m n f h = absurd (true≢false (sym (f refl)))
one_le false true m n f h = omega (arith, h)
one_le false false m n f h = h

one_lt : (a b : Bool) (m n : ℕ) → (a ≡ true → b ≡ true) → m < n → one_if a m < one_if b n
one_lt true true m n f h = omega (arith, h)
one_lt true false m n f h = absurd (true≢false (sym (f refl)))
one_lt false true m n f h = omega (arith, h)
one_lt false false m n f h = h

pub filter_le : {X : Type 0} (p q : X → Bool) → ((x : X) → p x ≡ true → q x ≡ true) → (xs : List X)
    → length (filter p xs) ≤ length (filter q xs)
filter_le p q f [] = omega arith
filter_le p q f (x ∷ xs) =
    let a = length_cons p x xs in
    let b = length_cons q x xs in
    let k = one_le (p x) (q x) (length (filter p xs)) (length (filter q xs)) (f x) (filter_le p q f xs) in
    omega (arith, a, b, k)

pub filter_lt : {X : Type 0} (p q : X → Bool) → ((x : X) → p x ≡ true → q x ≡ true) → (z : X) → q z ≡ true → p z
    ≡ false → (xs : List X) → In z xs
    → length (filter p xs) < length (filter q xs)
filter_lt p q f z passes fails [] i = absurd i
filter_lt {X} p q f z passes fails (x ∷ xs) (inl e) =
    let a = length_cons p x xs in
    let b = length_cons q x xs in
    let k = one_le false true (length (filter p xs)) (length (filter q xs)) (λ _. refl) (filter_le p q f xs) in
    let pe : p x ≡ false = subst (λ (w : X). p w ≡ false) e fails in
    let qe : q x ≡ true = subst (λ (w : X). q w ≡ true) e passes in
    let c : one_if (p x) (length (filter p xs)) ≡ one_if false (length (filter p xs)) =
    ap (λ (t : Bool). one_if t (length (filter p xs))) pe in
    let d : one_if (q x) (length (filter q xs)) ≡ one_if true (length (filter q xs)) =
    ap (λ (t : Bool). one_if t (length (filter q xs))) qe in
    lt_of a b c d (filter_le p q f xs)
  where
    lt_of : {m n u v s t : ℕ} → m ≡ u → n ≡ v → u ≡ one_if false s → v ≡ one_if true t → s ≤ t → m < n
    lt_of a b c d h = omega (arith, a, b, c, d, h)
filter_lt p q f z passes fails (x ∷ xs) (inr i) =
    let a = length_cons p x xs in
    let b = length_cons q x xs in
    let k = one_lt (p x) (q x) (length (filter p xs)) (length (filter q xs)) (f x)
    (filter_lt p q f z passes fails xs i) in
    omega (arith, a, b, k)

-- ---- paths

pub goes_on_through : (f : Pairs) (b : Bit) (p : Pairs) (c : Bit) (q : Pairs) → goes_on f b p ≡ true → goes_on p c q
    ≡ true → goes_on f b q ≡ true
goes_on_through f b [] c q h k = absurd (none_empty f b h)
goes_on_through [] b (x ∷ p) c [] h k = absurd (true≢false (sym k))
goes_on_through [] b (x ∷ p) c (y ∷ q) h k =
    let e = and_parts _ _ k in
    subst (λ (z : Pair). same_bit z.0 b ≡ true) (same_pair_true x y e.0) h
goes_on_through (g ∷ f) b (x ∷ p) c [] h k = absurd (true≢false (sym k))
goes_on_through (g ∷ f) b (x ∷ p) c (y ∷ q) h k =
    let d = and_parts _ _ h in
    let e = and_parts _ _ k in
    and_from _ _ (subst (λ (z : Pair). same_pair g z ≡ true) (same_pair_true x y e.0) d.0)
    (goes_on_through f b p c q d.1 e.1)

-- ---- slots

pub not_empty : {X : Type 0} (xs : List X) (x : X) → In x xs → is_empty_list xs ≡ false
not_empty [] x i = absurd i
not_empty (y ∷ xs) x i = refl

-- the slot t lies within s: a row of s is not in t, and every row of t is in s
pub record IsSmaller (rows : List DocRow) (t s : Slot) : Type 0 where
  pub outer : SlotPath
  pub inner : SlotPath
  pub is_outer : slot_path rows s ≡ Some outer
  pub is_inner : slot_path rows t ≡ Some inner
  pub within : (p : Pairs) → slot_contains inner p ≡ true → slot_contains outer p ≡ true
  pub row : DocRow
  pub there : In row rows
  pub inside : slot_contains outer row.path ≡ true
  pub outside : slot_contains inner row.path ≡ false

module _ (rows : List DocRow) (d : IsDocument rows) where
  below_root : (y : AtomIdValue) (side : Bit) (o : Option DocRow) → find_row y rows ≡ o
      → is_empty_list (rows_below rows (option_map (λ (r : DocRow). Below r.path side) o)) ≡ false
      → IsSmaller rows (At y side) Root
  below_root y side None e some = absurd (true≢false some)
  below_root y side (Some r) e some =
      record {
        outer = Whole;
        inner = Below r.path side;
        is_outer = refl;
        is_inner = ap (option_map (λ (q : DocRow). Below q.path side)) e;
        within = λ p h. refl;
        row = r;
        there = (found y r rows e).0;
        inside = refl;
        outside = false_from_ne_true (goes_on r.path side r.path) (not_in_own_slots r.path side);
      }

  below_slot : (x : AtomIdValue) (bit : Bit) (y : AtomIdValue) (side : Bit) (o : Option DocRow) → find_row x rows ≡ o
      → is_some (find_row y (rows_below rows (option_map (λ (r : DocRow). Below r.path bit) o))) ≡ true
      → IsSmaller rows (At y side) (At x bit)
  below_slot x bit y side None e h = absurd (true≢false (sym h))
  below_slot x bit y side (Some a) e h =
      let r = row_of y (rows_below rows (Some (Below a.path bit))) h in
      let i = In-filter (λ (q : DocRow). slot_contains (Below a.path bit) q.path) r.0 rows r.1 in
      let f : find_row y rows ≡ Some r.0 = ap (λ (z : AtomIdValue). find_row z rows) (sym r.2)
      ∙ find_in rows r.0 d.apart i.0 in
      record {
        outer = Below a.path bit;
        inner = Below r.0.path side;
        is_outer = ap (option_map (λ (q : DocRow). Below q.path bit)) e;
        is_inner = ap (option_map (λ (q : DocRow). Below q.path side)) f;
        within = λ p k. goes_on_through a.path bit r.0.path side p i.1 k;
        row = r.0;
        there = i.0;
        inside = i.1;
        outside = false_from_ne_true (goes_on r.0.path side r.0.path) (not_in_own_slots r.0.path side);
      }

  -- a slot with a row, contained in another, is that one or smaller
  pub smaller : (s t : Slot) → contains_slot rows s t ≡ true → is_empty_slot rows t ≡ false → (s ≡ t)
      ⊎ IsSmaller rows t s
  smaller Root Root h some = inl refl
  smaller Root (At y side) h some = inr (below_root y side (find_row y rows) refl some)
  smaller (At x bit) Root h some = absurd (true≢false (sym h))
  smaller (At x bit) (At y side) h some =
      ⊎_elim
      (λ (k : (same_slot (At x bit) (At y side) || false) ≡ true).
      ⊎_elim (λ (e : same_slot (At x bit) (At y side) ≡ true). inl (same_slot_true (At x bit) (At y side) e))
      (λ (e : false ≡ true). absurd (true≢false (sym e))) (or_cases _ _ k))
      (λ (k : is_within rows y (At x bit) ≡ true). inr (below_slot x bit y side (find_row x rows) refl k))
      (or_cases _ _ h)

  pub has_fewer : (s t : Slot) → IsSmaller rows t s → length (rows_in_slot rows t) < length (rows_in_slot rows s)
  has_fewer s t k =
      subst (λ (o : Option SlotPath). length (rows_in_slot rows t) < length (rows_below rows o)) (sym k.is_outer)
      (subst (λ (o : Option SlotPath). length (rows_below rows o) < length (rows_below rows (Some k.outer)))
      (sym k.is_inner)
      (filter_lt (λ (r : DocRow). slot_contains k.inner r.path) (λ (r : DocRow). slot_contains k.outer r.path)
      (λ r h. k.within r.path h) k.row k.inside k.outside rows k.there))

  -- its rows are rows of that one
  pub has_its_rows : (s t : Slot) → IsSmaller rows t s → (r : DocRow) → In r (rows_in_slot rows t)
      → In r (rows_in_slot rows s)
  has_its_rows s t k r i =
      let inner : In r (rows_below rows (Some k.inner)) =
      subst (λ (o : Option SlotPath). In r (rows_below rows o)) k.is_inner i in
      let f = In-filter (λ (q : DocRow). slot_contains k.inner q.path) r rows inner in
      subst (λ (o : Option SlotPath). In r (rows_below rows o)) (sym k.is_outer)
      (filter_In (λ (q : DocRow). slot_contains k.outer q.path) r rows f.0 (k.within r.path f.1))

  -- a slot within another has its rows there
  pub rows_within : (s t : Slot) → contains_slot rows s t ≡ true → (r : DocRow) → In r (rows_in_slot rows t)
      → In r (rows_in_slot rows s)
  rows_within s t h r i =
      ⊎_elim
      (λ (e : s ≡ t). subst (λ (u : Slot). In r (rows_in_slot rows u)) (sym e) i)
      (λ (k : IsSmaller rows t s). has_its_rows s t k r i)
      (smaller s t h (not_empty (rows_in_slot rows t) r i))

  pub within_through : (s t : Slot) (x : AtomIdValue) → contains_slot rows s t ≡ true → is_within rows x t ≡ true
      → is_within rows x s ≡ true
  within_through s t x h k =
      let r = row_of x (rows_in_slot rows t) k in
      subst (λ (y : AtomIdValue). is_within rows y s ≡ true) r.2
      (in_found r.0 (rows_in_slot rows s) (rows_within s t h r.0 r.1))

  only_root : (s : Slot) → contains_slot rows s Root ≡ true → s ≡ Root
  only_root Root h = refl
  only_root (At x bit) h = absurd (true≢false (sym h))

  root_contains : (t : Slot) → contains_slot rows Root t ≡ true
  root_contains t = or_left (same_slot Root t || true) _ (or_right (same_slot Root t) true refl)

  -- what a slot contains, one round it does
  pub contains_through : (s t u : Slot) → contains_slot rows s t ≡ true → contains_slot rows t u ≡ true
      → contains_slot rows s u ≡ true
  contains_through s t Root h k = subst (λ (q : Slot). contains_slot rows s q ≡ true) (only_root t k) h
  contains_through s Root (At z bit) h k =
      subst (λ (q : Slot). contains_slot rows q (At z bit) ≡ true) (sym (only_root s h)) (root_contains (At z bit))
  contains_through s (At y side) (At z bit) h k =
      ⊎_elim
      (λ (l : (same_slot (At y side) (At z bit) || false) ≡ true).
      ⊎_elim
      (λ (e : same_slot (At y side) (At z bit) ≡ true).
      subst (λ (q : Slot). contains_slot rows s q ≡ true) (same_slot_true (At y side) (At z bit) e) h)
      (λ (e : false ≡ true). absurd (true≢false (sym e)))
      (or_cases _ _ l))
      (λ (l : is_within rows z (At y side) ≡ true).
      or_right (same_slot s (At z bit) || is_root s) (is_within rows z s) (within_through s (At y side) z h l))
      (or_cases _ _ k)

  pub fewer : (s t : Slot) → contains_slot rows s t ≡ true → is_empty_slot rows t ≡ false → s ≢ t
      → row_count rows t < row_count rows s
  fewer s t h some other =
      ⊎_elim (λ (e : s ≡ t). absurd (other e)) (λ (k : IsSmaller rows t s). has_fewer s t k) (smaller s t h some)
