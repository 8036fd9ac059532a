-- The rows on a side of a row stand right beside it: so many are next to it, and all is known of them where the nearest
-- unknown row before it, or behind it, is not among them.
use Rattle.std.proofs.Common.{◌≡◌, ◌⊎◌, ℕ, List, [], ◌∷◌, ◌++◌, Bool, true, false, not, Option, Some, None, refl}
use Rattle.std.proofs.Common.{sym, ap, ◌∙◌, subst, inl, inr, ⊎_elim, true≢false, append_assoc, filter, length, take}
use Rattle.std.proofs.lemmas.List.{append-nil, length-reverse, reverse-reverse}
use Rattle.std.proofs.lemmas.List.Elements.{filter-append}
use Rattle.std.specs.Prelude.{is_some, reverse}
use Rattle.std.specs.Option.{option_map}
use Rattle.td_base.specs.declared.bit.Bit.{Bit}
use Rattle.td_base.specs.declared.bit.Bit.TheVariants.{Left, Right}
use Rattle.td_base.specs.Lists.{In, Successive}
use Rattle.td_base.specs.Value.{AtomIdValue}
use Rattle.td_base.proofs.Lists.{In-append, In-front, In-back, In-filter, filter_In}
use Rattle.td_base.proofs.Lists.{across, successive_front, successive_back, successive_imp}
use Rattle.td_base.proofs.Elements.{successive_among}
use Rattle.td_base.proofs.Reversed.{filter_reverse}
use Rattle.td_base.proofs.Searches.{all_pass, each_passes, filter_none, In-take}
use Rattle.td_path.specs.Infix.{Pairs, path_cmp}
use Rattle.td_path.specs.SlotPaths.{goes_on, slot_contains}
use Rattle.td_path.specs.declared.slot.Slot.{Slot}
use Rattle.td_path.specs.declared.slot.Slot.TheVariants.{At}
use Rattle.td_path.specs.declared.slot_path.SlotPath.TheVariants.{Below}
use Rattle.std.specs.declared.cmp.Ordering.TheVariants.{Less}
use Rattle.td_path.proofs.InfixOrder.{left_before, right_after, between_left, between_right, goes_on_parts}
use Rattle.td_doc.specs.Document.{DocRow, row_id, find_row, IsDocument}
use Rattle.td_doc.specs.Slots.{rows_below, rows_in_slot, is_within, is_known, is_known_row}
use Rattle.td_doc.proofs.Flattened.{not_in_own_slots}
use Rattle.td_doc.proofs.PutRows.{Before, Differ, not_both_before}
use Rattle.td_doc.proofs.SubtreeRows.{within_is, find_in}
use Rattle.td_idle.specs.Best.{row_count}
use Rattle.td_idle.specs.Walk.{is_one_within, along}
use Rattle.td_idle.proofs.Lists.{first_pass, from_turned, in_turned, successive_turned, turned_back, turned_round}

abbrev pub AllKnown : List ℕ → List DocRow → Type 0
AllKnown v xs = (q : DocRow) → In q xs → is_known_row v q ≡ true

-- the last unknown row of these, or none is unknown
abbrev LastUnknown : List ℕ → List DocRow → Option AtomIdValue → Type 0
LastUnknown v xs None = AllKnown v xs
LastUnknown v xs (Some x) =
    (front : List DocRow) × (u : DocRow) × (back : List DocRow) × (xs ≡ front ++ u ∷ back) × (row_id u ≡ x)
    × AllKnown v back
    × (is_known_row v u ≡ false)

-- the first
abbrev pub FirstUnknown : List ℕ → List DocRow → Option AtomIdValue → Type 0
FirstUnknown v xs None = AllKnown v xs
FirstUnknown v xs (Some x) =
    (front : List DocRow) × (u : DocRow) × (back : List DocRow) × (xs ≡ front ++ u ∷ back) × (row_id u ≡ x)
    × AllKnown v front
    × (is_known_row v u ≡ false)

module _ (v : List ℕ) (rows : List DocRow) (d : IsDocument rows) (front : List DocRow) (r : DocRow) (back : List DocRow)
    (is : rows ≡ front ++ r ∷ back) where
  abbrev On : Bit → DocRow → Type 0
  On bit q = goes_on r.path bit q.path ≡ true

  ascends : Successive Before (front ++ r ∷ back)
  ascends = subst (Successive Before) is d.ascending

  there : In r rows
  there = subst (λ (xs : List DocRow). In r xs) (sym is) (In-back r front (r ∷ back) (inl refl))

  in_front : (q : DocRow) → In q front → In q rows
  in_front q i = subst (λ (xs : List DocRow). In q xs) (sym is) (In-front q front (r ∷ back) i)

  in_back : (q : DocRow) → In q back → In q rows
  in_back q i = subst (λ (xs : List DocRow). In q xs) (sym is) (In-back q front (r ∷ back) (inr i))

  before_here : (q : DocRow) → In q front → Before q r
  before_here q i = across Before front (r ∷ back) ascends q r i (inl refl)

  behind_here : (q : DocRow) → In q back → Before r q
  behind_here q i =
      across Before (front ++ r ∷ []) back (subst (Successive Before) (sym (append_assoc front (r ∷ []) back))
      ascends) r q
      (In-back r front (r ∷ []) (inl refl)) i

  -- ---- the rows on a side

  side_at : (bit : Bit) → rows_in_slot rows (At (row_id r) bit) ≡ rows_below rows (Some (Below r.path bit))
  side_at bit = ap (λ (o : Option DocRow). rows_below rows (option_map (λ (q : DocRow). Below q.path bit) o))
      (find_in rows r d.apart there)

  within_side : (bit : Bit) (u : DocRow) → In u rows → is_within rows (row_id u) (At (row_id r) bit)
      ≡ goes_on r.path bit u.path
  within_side bit u i = ap (λ (xs : List DocRow). is_some (find_row (row_id u) xs)) (side_at bit)
      ∙ within_is rows (Below r.path bit) u d.apart i

  left_stands_before : (q : DocRow) → On Left q → Before q r
  left_stands_before q h =
      let g = goes_on_parts r.path Left q.path h in
      subst (λ (p : Pairs). path_cmp p r.path ≡ Less) (sym g.is) (left_before r.path g.id g.rest)

  right_stands_behind : (q : DocRow) → On Right q → Before r q
  right_stands_behind q h =
      let g = goes_on_parts r.path Right q.path h in
      subst (λ (p : Pairs). path_cmp r.path p ≡ Less) (sym g.is) (right_after r.path g.id g.rest)

  left_in_front : (q : DocRow) → In q rows → On Left q → In q front
  left_in_front q i h =
      ⊎_elim (λ (k : In q front). k)
      (λ (k : (q ≡ r) ⊎ In q back).
      absurd (⊎_elim
      (λ (e : q ≡ r). not_in_own_slots r.path Left (subst (λ (z : DocRow). On Left z) e h))
      (λ (j : In q back). not_both_before q.path r.path (left_stands_before q h) (behind_here q j))
      k))
      (In-append q front (r ∷ back) (subst (λ (xs : List DocRow). In q xs) is i))

  right_in_back : (q : DocRow) → In q rows → On Right q → In q back
  right_in_back q i h =
      ⊎_elim (λ (k : In q front). absurd (not_both_before r.path q.path (right_stands_behind q h) (before_here q k)))
      (λ (k : (q ≡ r) ⊎ In q back).
      ⊎_elim
      (λ (e : q ≡ r). absurd (not_in_own_slots r.path Right (subst (λ (z : DocRow). On Right z) e h)))
      (λ (j : In q back). j)
      k)
      (In-append q front (r ∷ back) (subst (λ (xs : List DocRow). In q xs) is i))

  -- what stands between a row on a side and the row is on that side
  left_between : (q u : DocRow) → On Left q → Before q u → Before u r → On Left u
  left_between q u h first second =
      let g = goes_on_parts r.path Left q.path h in
      between_left r.path u.path g.id g.rest (subst (λ (p : Pairs). path_cmp p u.path ≡ Less) g.is first) second

  right_between : (q u : DocRow) → On Right q → Before r u → Before u q → On Right u
  right_between q u h first second =
      let g = goes_on_parts r.path Right q.path h in
      between_right r.path u.path g.id g.rest first (subst (λ (p : Pairs). path_cmp u.path p ≡ Less) g.is second)

  -- ---- so many are next to it

  abbrev on : Bit → DocRow → Bool
  on bit q = goes_on r.path bit q.path

  not_on : (bit : Bit) (q : DocRow) → (On bit q → ⊥) → on bit q ≡ false
  not_on bit q none = at (on bit q) refl
    where
      at : (b : Bool) → on bit q ≡ b → b ≡ false
      at false e = refl
      at true e = absurd (none e)

  not_here : (bit : Bit) (q : DocRow) → q ≡ r → On bit q → ⊥
  not_here bit q e h = not_in_own_slots r.path bit (subst (λ (z : DocRow). On bit z) e h)

  behind_split : rows ≡ (front ++ r ∷ []) ++ back
  behind_split = is ∙ sym (append_assoc front (r ∷ []) back)

  right_rows : filter (on Right) rows ≡ filter (on Right) back
  right_rows =
      ap (filter (on Right)) behind_split
      ∙ (filter-append (on Right) (front ++ r ∷ []) back
      ∙ ap (λ (xs : List DocRow). xs ++ filter (on Right) back)
      (filter_none (on Right) (front ++ r ∷ []) (λ q i. not_on Right q (none q i))))
    where
      none : (q : DocRow) → In q (front ++ r ∷ []) → On Right q → ⊥
      none q i h =
          ⊎_elim (λ (j : In q front). not_both_before r.path q.path (right_stands_behind q h) (before_here q j))
          (λ (j : In q (r ∷ [])). ⊎_elim (λ (e : q ≡ r). not_here Right q e h) (λ (k : ⊥). k) j)
          (In-append q front (r ∷ []) i)

  left_rows : filter (on Left) rows ≡ filter (on Left) front
  left_rows =
      ap (filter (on Left)) is
      ∙ (filter-append (on Left) front (r ∷ back)
      ∙ (ap (λ (xs : List DocRow). filter (on Left) front ++ xs)
      (filter_none (on Left) (r ∷ back) (λ q i. not_on Left q (none q i)))
      ∙ append-nil (filter (on Left) front)))
    where
      none : (q : DocRow) → In q (r ∷ back) → On Left q → ⊥
      none q (inl e) h = not_here Left q e h
      none q (inr j) h = not_both_before q.path r.path (left_stands_before q h) (behind_here q j)

  right_next : (q : DocRow) → In q (take (row_count rows (At (row_id r) Right)) back)
      → is_within rows (row_id q) (At (row_id r) Right) ≡ true
  right_next q i =
      let many : row_count rows (At (row_id r) Right) ≡ length (filter (on Right) back) =
      ap length (side_at Right) ∙ ap length right_rows in
      let rises : Successive Before back =
      successive_back Before (front ++ r ∷ []) back (subst (Successive Before) behind_split d.ascending) in
      let first : Successive (λ (y z : DocRow). on Right z ≡ true → on Right y ≡ true) back =
      successive_among Before (λ (y z : DocRow). on Right z ≡ true → on Right y ≡ true) back
      (λ y z j k b h. right_between z y h (behind_here y j) b) rises in
      within_side Right q (in_back q (In-take q (row_count rows (At (row_id r) Right)) back i))
      ∙ first_pass (on Right) back first q (subst (λ (n : ℕ). In q (take n back)) many i)

  left_next : (q : DocRow) → In q (take (row_count rows (At (row_id r) Left)) (reverse front))
      → is_within rows (row_id q) (At (row_id r) Left) ≡ true
  left_next q i =
      let many : row_count rows (At (row_id r) Left) ≡ length (filter (on Left) (reverse front)) =
      ap length (side_at Left)
      ∙ (ap length left_rows
      ∙ sym (ap length (filter_reverse (on Left) front) ∙ length-reverse (filter (on Left) front))) in
      let last : Successive (λ (y z : DocRow). on Left y ≡ true → on Left z ≡ true) front =
      successive_among Before (λ (y z : DocRow). on Left y ≡ true → on Left z ≡ true) front
      (λ y z j k b h. left_between y z h b (before_here z k)) (successive_front Before front (r ∷ back) ascends) in
      within_side Left q
      (in_front q (from_turned q front (In-take q (row_count rows (At (row_id r) Left)) (reverse front) i)))
      ∙ first_pass (on Left) (reverse front)
      (successive_turned (λ (y z : DocRow). on Left y ≡ true → on Left z ≡ true) front last) q
      (subst (λ (n : ℕ). In q (take n (reverse front))) many i)

  -- ---- the nearest unknown row

  outside : (bit : Bit) (u : DocRow) (x : AtomIdValue) → In u rows → row_id u ≡ x
      → is_within rows x (At (row_id r) bit) ≡ false → On bit u → ⊥
  outside bit u x i e out h =
      true≢false (sym (within_side bit u i ∙ h) ∙ (ap (λ (y : AtomIdValue). is_within rows y (At (row_id r) bit)) e
      ∙ out))

  left_known : (before : Option AtomIdValue) → LastUnknown v front before
      → is_one_within rows before (At (row_id r) Left) ≡ false
      → (q : DocRow) → In q rows → On Left q → is_known_row v q ≡ true
  left_known None h out q i j = h q (left_in_front q i j)
  left_known (Some x) h out q i j =
      let u : DocRow = h.1 in
      let u_there : In u front = subst (λ (xs : List DocRow). In u xs) (sym h.3) (In-back u h.0 (u ∷ h.2) (inl refl)) in
      let up : Successive Before (h.0 ++ u ∷ h.2) = subst (Successive Before) h.3
      (successive_front Before front (r ∷ back) ascends) in
      let none : On Left u → ⊥ = outside Left u x (in_front u u_there) h.4 out in
      ⊎_elim
      (λ (k : In q h.0). absurd (none (left_between q u j (across Before h.0 (u ∷ h.2) up q u k (inl refl))
      (before_here u u_there))))
      (λ (k : (q ≡ u) ⊎ In q h.2).
      ⊎_elim
      (λ (l : q ≡ u). absurd (none (subst (λ (z : DocRow). On Left z) l j)))
      (λ (l : In q h.2). h.5 q l)
      k)
      (In-append q h.0 (u ∷ h.2) (subst (λ (xs : List DocRow). In q xs) h.3 (left_in_front q i j)))

  right_known : (behind : Option AtomIdValue) → FirstUnknown v back behind
      → is_one_within rows behind (At (row_id r) Right) ≡ false
      → (q : DocRow) → In q rows → On Right q → is_known_row v q ≡ true
  right_known None h out q i j = h q (right_in_back q i j)
  right_known (Some x) h out q i j =
      let u : DocRow = h.1 in
      let u_there : In u back = subst (λ (xs : List DocRow). In u xs) (sym h.3) (In-back u h.0 (u ∷ h.2) (inl refl)) in
      let rises : Successive Before ((front ++ r ∷ []) ++ back) =
      subst (Successive Before) (sym (append_assoc front (r ∷ []) back)) ascends in
      let up : Successive Before (h.0 ++ u ∷ h.2) = subst (Successive Before) h.3
      (successive_back Before (front ++ r ∷ []) back rises) in
      let none : On Right u → ⊥ = outside Right u x (in_back u u_there) h.4 out in
      let split : (h.0 ++ u ∷ []) ++ h.2 ≡ h.0 ++ u ∷ h.2 = append_assoc h.0 (u ∷ []) h.2 in
      ⊎_elim
      (λ (k : In q h.0). h.5 q k)
      (λ (k : (q ≡ u) ⊎ In q h.2).
      ⊎_elim
      (λ (l : q ≡ u). absurd (none (subst (λ (z : DocRow). On Right z) l j)))
      (λ (l : In q h.2).
      absurd (none (right_between q u j (behind_here u u_there)
      (across Before (h.0 ++ u ∷ []) h.2 (subst (Successive Before) (sym split) up) u q
      (In-back u h.0 (u ∷ []) (inl refl)) l))))
      k)
      (In-append q h.0 (u ∷ h.2) (subst (λ (xs : List DocRow). In q xs) h.3 (right_in_back q i j)))

  -- ---- all is known of a side exactly where the nearest unknown row is not on it

  side_known : (bit : Bit) → ((q : DocRow) → In q rows → On bit q → is_known_row v q ≡ true)
      → is_known rows (At (row_id r) bit) v ≡ true
  side_known bit h =
      all_pass (is_known_row v) (rows_in_slot rows (At (row_id r) bit))
      (λ q i.
      let f = In-filter (λ (z : DocRow). slot_contains (Below r.path bit) z.path) q rows
      (subst (λ (xs : List DocRow). In q xs) (side_at bit) i) in
      h q f.0 f.1)

  side_unknown : (bit : Bit) (u : DocRow) (x : AtomIdValue) → In u rows → row_id u ≡ x → is_known_row v u ≡ false
      → is_within rows x (At (row_id r) bit) ≡ true → is_known rows (At (row_id r) bit) v ≡ false
  side_unknown bit u x i e unknown inside = by (is_known rows (At (row_id r) bit) v) refl
    where
      on : goes_on r.path bit u.path ≡ true
      on = sym (within_side bit u i) ∙ (ap (λ (y : AtomIdValue). is_within rows y (At (row_id r) bit)) e ∙ inside)

      member : In u (rows_in_slot rows (At (row_id r) bit))
      member = subst (λ (xs : List DocRow). In u xs) (sym (side_at bit))
          (filter_In (λ (z : DocRow). slot_contains (Below r.path bit) z.path) u rows i on)

      by : (b : Bool) → is_known rows (At (row_id r) bit) v ≡ b → b ≡ false
      by false k = refl
      by true k = absurd (true≢false (sym (each_passes (is_known_row v) (rows_in_slot rows (At (row_id r) bit)) k u
          member) ∙ unknown))

  by_neighbour : (slot : Slot) (neighbour : Option AtomIdValue)
      → (is_one_within rows neighbour slot ≡ false → is_known rows slot v ≡ true)
      → (is_one_within rows neighbour slot ≡ true → is_known rows slot v ≡ false)
      → not (is_one_within rows neighbour slot) ≡ is_known rows slot v
  by_neighbour slot neighbour none one = at (is_one_within rows neighbour slot) refl
    where
      at : (b : Bool) → is_one_within rows neighbour slot ≡ b → not b ≡ is_known rows slot v
      at true e = sym (one e)
      at false e = sym (none e)

  left_beside : (before : Option AtomIdValue) → LastUnknown v front before
      → not (is_one_within rows before (At (row_id r) Left)) ≡ is_known rows (At (row_id r) Left) v
  left_beside before h =
      by_neighbour (At (row_id r) Left) before (λ out. side_known Left (left_known before h out)) (one before h)
    where
      one : (o : Option AtomIdValue) → LastUnknown v front o → is_one_within rows o (At (row_id r) Left) ≡ true
          → is_known rows (At (row_id r) Left) v ≡ false
      one None h e = absurd (true≢false (sym e))
      one (Some x) h e =
          side_unknown Left h.1 x
          (in_front h.1 (subst (λ (xs : List DocRow). In h.1 xs) (sym h.3) (In-back h.1 h.0 (h.1 ∷ h.2) (inl refl))))
          h.4 h.6 e

  right_beside : (behind : Option AtomIdValue) → FirstUnknown v back behind
      → not (is_one_within rows behind (At (row_id r) Right)) ≡ is_known rows (At (row_id r) Right) v
  right_beside behind h =
      by_neighbour (At (row_id r) Right) behind (λ out. side_known Right (right_known behind h out)) (one behind h)
    where
      one : (o : Option AtomIdValue) → FirstUnknown v back o → is_one_within rows o (At (row_id r) Right) ≡ true
          → is_known rows (At (row_id r) Right) v ≡ false
      one None h e = absurd (true≢false (sym e))
      one (Some x) h e =
          side_unknown Right h.1 x
          (in_back h.1 (subst (λ (xs : List DocRow). In h.1 xs) (sym h.3) (In-back h.1 h.0 (h.1 ∷ h.2) (inl refl))))
          h.4 h.6 e

-- ---- along the rows, those on the side of a row come right behind it

-- the last unknown row is the first of the rows turned
last_of : (v : List ℕ) (xs : List DocRow) (o : Option AtomIdValue) → FirstUnknown v xs o
    → LastUnknown v (reverse xs) o
last_of v xs None h = λ q i. h q (from_turned q xs i)
last_of v xs (Some x) h = (
  reverse h.2,
  h.1,
  reverse h.0,
  ap reverse h.3 ∙ turned_round h.0 h.1 h.2,
  h.4,
  (λ q i. h.5 q (from_turned q h.0 i)),
  h.6,
)

-- the row, and those behind it
pub record IsAhead (v : List ℕ) (rows : List DocRow) (bit : Bit) (r : DocRow) (back : List DocRow) : Type 0 where
  pub beside : (next : Option AtomIdValue) → FirstUnknown v back next
      → not (is_one_within rows next (At (row_id r) bit)) ≡ is_known rows (At (row_id r) bit) v
  pub next : (q : DocRow) → In q (take (row_count rows (At (row_id r) bit)) back)
      → is_within rows (row_id q) (At (row_id r) bit) ≡ true

pub ahead : (v : List ℕ) (rows : List DocRow) → IsDocument rows → (bit : Bit) (front : List DocRow) (r : DocRow)
    (back : List DocRow) → along bit rows ≡ front ++ r ∷ back → IsAhead v rows bit r back
ahead v rows d Right front r back is =
    record { beside = right_beside v rows d front r back is; next = right_next v rows d front r back is }
ahead v rows d Left front r back is =
    let turned : rows ≡ reverse back ++ r ∷ reverse front = turned_back rows front r back is in
    record {
      beside = λ next h. left_beside v rows d (reverse back) r (reverse front) turned next (last_of v back next h);
      next = λ q i.
          left_next v rows d (reverse back) r (reverse front) turned q
          (subst (λ (z : List DocRow). In q (take (row_count rows (At (row_id r) Left)) z))
          (sym (reverse-reverse back)) i);
    }

pub in_along : (bit : Bit) (rows : List DocRow) (r : DocRow) → In r rows → In r (along bit rows)
in_along Left rows r i = in_turned r rows i
in_along Right rows r i = i

pub apart_along : (bit : Bit) (rows : List DocRow) → Successive Differ rows → Successive Differ (along bit rows)
apart_along Right rows s = s
apart_along Left rows s =
    successive_imp (λ (x y : DocRow). Differ y x) Differ (λ x y h e. h (sym e)) (reverse rows)
    (successive_turned Differ rows s)
