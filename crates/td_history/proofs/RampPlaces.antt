-- Lists in ramps: what one more element makes of them, and the ramp in which a place is.
use Rattle.std.proofs.Common.{◌≡◌, ◌<◌, ◌≤◌, ◌+◌, ◌-◌, ◌++◌, ℕ, zero, suc, List, [], ◌∷◌, length, Some, refl, sym}
use Rattle.std.proofs.Common.{ap, ◌∙◌, subst, inl, inr, ⊎_elim, ◌⊎◌, arith, append_assoc, length-append}
use Rattle.std.proofs.lemmas.List.{append-nil}
use Rattle.std.proofs.lemmas.Option.{slice_get_within, get_or_from_slice_get}
use Rattle.std.specs.List.{slice_get, slice_index_or}
use Rattle.std.proofs.lemmas.Bool.{leb-true, leb-false, le-leb}
use Rattle.std.proofs.Common.{Bool, true, false, leb, true≢false}
use Rattle.std.specs.List.Sorted.{IsNonDecreasingBy, IsPartitionPoint}
use Rattle.td_base.proofs.Places.{get_more, get_behind}
use Rattle.td_history.specs.declared.ramps.Ramp.{Ramp}
use Rattle.td_history.specs.Ramps.{ramp_of, first_start, items_in, AreRampsFrom, IsNextOfRamp}

below_or_last : (k n : ℕ) → k < suc n → (k < n) ⊎ (k ≡ n)
below_or_last zero zero h = inr refl
below_or_last zero (suc n) h = inl (omega arith)
below_or_last (suc k) zero h = absurd (omega arith)
below_or_last (suc k) (suc n) h =
    ⊎_elim (λ (m : k < n). inl (omega arith)) (λ (m : k ≡ n). inr (ap suc m)) (below_or_last k n (omega arith))

get_back : {X : Type 0} (xs ys : List X) (k : ℕ) → length xs ≤ k
    → slice_get (xs ++ ys) k ≡ slice_get ys (k - length xs)
get_back [] ys k h = let same : k ≡ k - 0 = omega arith in ap (slice_get ys) same
get_back (x ∷ xs) ys zero h = absurd (omega arith)
get_back (x ∷ xs) ys (suc k) h =
    let same : k - length xs ≡ suc k - length (x ∷ xs) = omega arith in
    get_back xs ys k (omega arith) ∙ ap (slice_get ys) same

-- ---- where ramps stand

module _ {X : Type 0} where
  pub up_to : (at : ℕ) (ramps : List (Ramp X)) (end : ℕ) → AreRampsFrom at ramps end → at ≤ end
  up_to at [] end h = omega (arith, h)
  up_to at (r ∷ ramps) end h =
      let rest : first_start ramps end ≤ end = up_to (first_start ramps end) ramps end h.2 in omega (arith, h.1)

  -- a ramp begins at or behind the first of them, and before the end
  pub start_within : (at : ℕ) (ramps : List (Ramp X)) (end : ℕ) → AreRampsFrom at ramps end → (j : ℕ) (d : Ramp X)
      → j < length ramps → (at ≤ (slice_index_or ramps j d).start) × ((slice_index_or ramps j d).start < end)
  start_within at [] end h j d l = absurd (omega arith)
  start_within at (r ∷ ramps) end h zero d l =
      let rest : first_start ramps end ≤ end = up_to (first_start ramps end) ramps end h.2 in
      (omega (arith, h.0), omega (arith, h.0, h.1))
  start_within at (r ∷ ramps) end h (suc j) d l =
      let rest = start_within (first_start ramps end) ramps end h.2 j d (omega arith) in
      (omega (arith, h.1, rest.0), rest.1)

  pub start_below : (at : ℕ) (ramps : List (Ramp X)) (end k : ℕ) (r : Ramp X) → AreRampsFrom at ramps end
      → slice_get ramps k ≡ Some r → r.start < end
  start_below at ramps end k r h e =
      let within = start_within at ramps end h k r (slice_get_within ramps k r e) in
      subst (λ (z : Ramp X). z.start < end) (get_or_from_slice_get ramps k r r e) within.1

  pub starts_rise : (at : ℕ) (ramps : List (Ramp X)) (end : ℕ) → AreRampsFrom at ramps end
      → IsNonDecreasingBy (λ (r : Ramp X). r.start) ramps
  starts_rise at [] end h i j d le l = absurd (omega arith)
  starts_rise at (r ∷ ramps) end h zero zero d le l = omega arith
  starts_rise at (r ∷ ramps) end h zero (suc j) d le l =
      let rest = start_within (first_start ramps end) ramps end h.2 j d (omega arith) in
      omega (arith, h.0, h.1, rest.0)
  starts_rise at (r ∷ ramps) end h (suc i) zero d le l = absurd (omega arith)
  starts_rise at (r ∷ ramps) end h (suc i) (suc j) d le l =
      starts_rise (first_start ramps end) ramps end h.2 i j d (omega arith) (omega arith)

  -- where the last ramp begins at a place or before, all do
  pub all_begun : (ramps : List (Ramp X)) (last : Ramp X) (k : ℕ) → slice_get ramps (length ramps - 1) ≡ Some last
      → last.start ≤ k → IsNonDecreasingBy (λ (r : Ramp X). r.start) ramps
      → IsPartitionPoint (λ (r : Ramp X). leb r.start k ≡ true) (λ (r : Ramp X). leb r.start k ≡ false) ramps
      (length ramps)
  all_begun ramps last k e low rise = (
    λ i d from l.
        let is : (slice_index_or ramps (length ramps - 1) d).start ≡ last.start =
        ap (λ (r : Ramp X). r.start) (get_or_from_slice_get ramps (length ramps - 1) last d e) in
        let up : (slice_index_or ramps i d).start ≤ (slice_index_or ramps (length ramps - 1) d).start =
        rise i (length ramps - 1) d (omega (arith, l)) (omega (arith, l)) in
        le-leb (slice_index_or ramps i d).start k (omega (arith, is, up, low)),
    λ i d from l. absurd (omega (arith, from, l)),
  )

  first_above : (ramps : List (Ramp X)) (end k : ℕ) (d : Ramp X) → k < end
      → (0 < length ramps → k < (slice_index_or ramps 0 d).start) → k < first_start ramps end
  first_above [] end k d l above = l
  first_above (r ∷ ramps) end k d l above = above (omega arith)

-- ---- one ramp, by what stands so far behind an element

module _ {X : Type 0} (on : ℕ → X → X) where
  pub ramp_len : (first : X) (n : ℕ) → length (ramp_of on first n) ≡ n
  ramp_len first zero = refl
  ramp_len first (suc n) = omega (arith, length-append (ramp_of on first n) (on n first ∷ []), ramp_len first n)

  last_of_ramp : (first : X) (n : ℕ) → slice_get (ramp_of on first (suc n)) n ≡ Some (on n first)
  last_of_ramp first n =
      subst (λ z. slice_get (ramp_of on first (suc n)) z ≡ Some (on n first)) (ramp_len first n)
      (get_behind (ramp_of on first n) (on n first) [])

  pub ramp_at : (first : X) (n k : ℕ) → k < n → slice_get (ramp_of on first n) k ≡ Some (on k first)
  ramp_at first zero k h = absurd (omega arith)
  ramp_at first (suc n) k h =
      ⊎_elim (λ (m : k < n). get_more (ramp_of on first n) (on n first ∷ []) k (on k first) (ramp_at first n k m))
      (λ (m : k ≡ n). subst (λ z. slice_get (ramp_of on first (suc n)) z ≡ Some (on z first)) (sym m)
      (last_of_ramp first n))
      (below_or_last k n h)

  pub items_len : (at : ℕ) (ramps : List (Ramp X)) (end : ℕ) → AreRampsFrom at ramps end
      → at + length (items_in on ramps end) ≡ end
  items_len at [] end h = omega (arith, h)
  items_len at (r ∷ ramps) end h =
      let next = first_start ramps end in
      omega (
        arith,
        h.0,
        h.1,
        items_len next ramps end h.2,
        ramp_len r.first (next - r.start),
        length-append (ramp_of on r.first (next - r.start)) (items_in on ramps end),
      )

  -- ---- an element more

  module _ (end : ℕ) (item : X) where
    abbrev new_ramp : Ramp X
    new_ramp = record { start = end; first = item }

    first_kept : (ramps : List (Ramp X)) → first_start (ramps ++ new_ramp ∷ []) (end + 1) ≡ first_start ramps end
    first_kept [] = refl
    first_kept (r ∷ ramps) = refl

    -- in a ramp of its own
    pub ramp_put : on 0 item ≡ item → (ramps : List (Ramp X))
        → items_in on (ramps ++ new_ramp ∷ []) (end + 1) ≡ items_in on ramps end ++ item ∷ []
    ramp_put is [] =
        let one : end + 1 - end ≡ 1 = omega arith in
        ap (λ n. ramp_of on item n ++ []) one ∙ ap (λ x. x ∷ []) is
    ramp_put is (r ∷ ramps) =
        ap (λ s. ramp_of on r.first (s - r.start) ++ items_in on (ramps ++ new_ramp ∷ []) (end + 1)) (first_kept ramps)
        ∙ (ap (λ q. ramp_of on r.first (first_start ramps end - r.start) ++ q) (ramp_put is ramps)
        ∙ sym (append_assoc (ramp_of on r.first (first_start ramps end - r.start)) (items_in on ramps end)
        (item ∷ [])))

    pub put_ramps : (at : ℕ) (ramps : List (Ramp X)) → AreRampsFrom at ramps end
        → AreRampsFrom at (ramps ++ new_ramp ∷ []) (end + 1)
    put_ramps at [] h = (sym h, omega (arith, h), refl)
    put_ramps at (r ∷ ramps) h =
        rw (first_kept ramps) (h.0, h.1, put_ramps (first_start ramps end) ramps h.2)

    -- in the last ramp
    pub ramp_on : (at : ℕ) (ramps : List (Ramp X)) → AreRampsFrom at ramps end → IsNextOfRamp on ramps end item
        → items_in on ramps (end + 1) ≡ items_in on ramps end ++ item ∷ []
    ramp_on at [] h next = absurd next
    ramp_on at (r ∷ []) h next =
        let more : end + 1 - r.start ≡ suc (end - r.start) = omega (arith, h.0, h.1) in
        append-nil (ramp_of on r.first (end + 1 - r.start))
        ∙ (ap (ramp_of on r.first) more
        ∙ (ap (λ e. ramp_of on r.first (end - r.start) ++ e ∷ []) next
        ∙ ap (λ q. q ++ item ∷ []) (sym (append-nil (ramp_of on r.first (end - r.start))))))
    ramp_on at (r ∷ s ∷ ramps) h next =
        ap (λ q. ramp_of on r.first (s.start - r.start) ++ q) (ramp_on s.start (s ∷ ramps) h.2 next)
        ∙ sym (append_assoc (ramp_of on r.first (s.start - r.start)) (items_in on (s ∷ ramps) end) (item ∷ []))

    pub on_ramps : (at : ℕ) (ramps : List (Ramp X)) → AreRampsFrom at ramps end → IsNextOfRamp on ramps end item
        → AreRampsFrom at ramps (end + 1)
    on_ramps at [] h next = absurd next
    on_ramps at (r ∷ []) h next = (h.0, omega (arith, h.1), refl)
    on_ramps at (r ∷ s ∷ ramps) h next = (h.0, h.1, on_ramps s.start (s ∷ ramps) h.2 next)

    -- the last ramp, by its place
    pub next_of_last : (ramps : List (Ramp X)) (r : Ramp X) → slice_get ramps (length ramps - 1) ≡ Some r
        → on (end - r.start) r.first ≡ item → IsNextOfRamp on ramps end item
    next_of_last [] r e goes = absurd cc
    next_of_last (x ∷ []) r e goes =
        let same : x ≡ r = cc in subst (λ (z : Ramp X). on (end - z.start) z.first ≡ item) (sym same) goes
    next_of_last (x ∷ y ∷ ramps) r e goes =
        let back : length (x ∷ y ∷ ramps) - 1 ≡ suc (length (y ∷ ramps) - 1) = omega arith in
        next_of_last (y ∷ ramps) r (sym (ap (slice_get (x ∷ y ∷ ramps)) back) ∙ e) goes

  -- ---- the element at a place

  -- it is in the last ramp that begins there or before
  pub item_found : (at : ℕ) (ramps : List (Ramp X)) (end k j : ℕ) (d : Ramp X) → AreRampsFrom at ramps end → at ≤ k
      → k < end → j < length ramps → (slice_index_or ramps j d).start ≤ k
      → ((i : ℕ) → j < i → i < length ramps → k < (slice_index_or ramps i d).start)
      → slice_get (items_in on ramps end) (k - at)
      ≡ Some (on (k - (slice_index_or ramps j d).start) (slice_index_or ramps j d).first)
  item_found at [] end k j d h from l there below above = absurd (omega arith)
  item_found at (r ∷ ramps) end k zero d h from l there below above =
      let next = first_start ramps end in
      let upto : k < next = first_above ramps end k d l (λ m. above 1 (omega arith) (omega arith)) in
      let same : k - at ≡ k - r.start = omega (arith, h.0) in
      ap (slice_get (items_in on (r ∷ ramps) end)) same
      ∙ get_more (ramp_of on r.first (next - r.start)) (items_in on ramps end) (k - r.start) (on (k - r.start) r.first)
      (ramp_at r.first (next - r.start) (k - r.start) (omega (arith, h.0)))
  item_found at (r ∷ ramps) end k (suc j) d h from l there below above =
      let next = first_start ramps end in
      let rest = start_within next ramps end h.2 j d (omega arith) in
      let len : length (ramp_of on r.first (next - r.start)) ≡ next - r.start = ramp_len r.first (next - r.start) in
      let past : next ≤ k = omega (arith, rest.0, below) in
      let same : k - at - length (ramp_of on r.first (next - r.start)) ≡ k - next = omega (arith, h.0, h.1) in
      get_back (ramp_of on r.first (next - r.start)) (items_in on ramps end) (k - at) (omega (arith, h.0, h.1))
      ∙ (ap (slice_get (items_in on ramps end)) same
      ∙ item_found next ramps end k j d h.2 past l (omega arith) below
      (λ i m q. above (suc i) (omega arith) (omega arith)))

  place_within : (ramps : List (Ramp X)) (items : List X) (end k : ℕ) → AreRampsFrom 0 ramps end
      → items_in on ramps end ≡ items → k < length items → k < end
  place_within ramps items end k h e l =
      let len : 0 + length (items_in on ramps end) ≡ end = items_len 0 ramps end h in
      let within : k < length (items_in on ramps end) = subst (λ (z : List X). k < length z) (sym e) l in
      omega (arith, len, within)

-- ---- where a search by the beginnings ends

module _ {X : Type 0} (end k : ℕ) where
  abbrev begins : Ramp X → Bool
  begins r = leb r.start k

  abbrev Behind : List (Ramp X) → ℕ → Type 0
  Behind ramps b = IsPartitionPoint (λ (r : Ramp X). begins r ≡ true) (λ (r : Ramp X). begins r ≡ false) ramps b

  point_in : (slice ramps : List (Ramp X)) (b : ℕ) → slice ≡ ramps → AreRampsFrom 0 ramps end
      → (IsNonDecreasingBy (λ (r : Ramp X). r.start) slice → Behind slice b) → Behind ramps b
  point_in slice ramps b e h point =
      subst (λ (z : List (Ramp X)). Behind z b) e
      (point (subst (λ (z : List (Ramp X)). IsNonDecreasingBy (λ (r : Ramp X). r.start) z) (sym e)
      (starts_rise 0 ramps end h)))

  some_begins : (ramps : List (Ramp X)) (b : ℕ) → AreRampsFrom 0 ramps end → k < end → Behind ramps b → 1 ≤ b
  some_begins [] b h l p = absurd (omega (arith, h))
  some_begins (r ∷ ramps) zero h l p =
      absurd (true≢false (sym (le-leb r.start k (omega (arith, h.0))) ∙ p.1 0 r (omega arith) (omega arith)))
  some_begins (r ∷ ramps) (suc b) h l p = omega arith

  -- a place that there is, as it is seen from outside
  pub place_found : (on : ℕ → X → X) (slice ramps : List (Ramp X)) (items : List X) (b : ℕ) → slice ≡ ramps
      → AreRampsFrom 0 ramps end → items_in on ramps end ≡ items → k < length items
      → (IsNonDecreasingBy (λ (r : Ramp X). r.start) slice → Behind slice b)
      → (k < end) × (1 ≤ b) × Behind ramps b
  place_found on slice ramps items b e h is l point =
      let within : k < end = place_within on ramps items end k h is l in
      let behind = point_in slice ramps b e h point in
      (within, some_begins ramps b h within behind, behind)

  pub last_begins : (ramps : List (Ramp X)) (b : ℕ) (d ramp : Ramp X) → 1 ≤ b → Behind ramps b
      → ramp ≡ slice_index_or ramps (b - 1) d → ramp.start ≤ k
  last_begins ramps b d ramp some p e =
      subst (λ (z : Ramp X). z.start ≤ k) (sym e)
      (leb-true (slice_index_or ramps (b - 1) d).start k (p.0 (b - 1) d (omega arith) (omega arith)))

  pub item_behind : (on : ℕ → X → X) (ramps : List (Ramp X)) (b : ℕ) (d ramp : Ramp X) → AreRampsFrom 0 ramps end
      → k < end → b ≤ length ramps → Behind ramps b → ramp ≡ slice_index_or ramps (b - 1) d
      → slice_get (items_in on ramps end) k ≡ Some (on (k - ramp.start) ramp.first)
  item_behind on ramps b d ramp h l within p e =
      let some : 1 ≤ b = some_begins ramps b h l p in
      let same : k ≡ k - 0 = omega arith in
      let below : (slice_index_or ramps (b - 1) d).start ≤ k =
      subst (λ (z : Ramp X). z.start ≤ k) e (last_begins ramps b d ramp some p e) in
      ap (slice_get (items_in on ramps end)) same
      ∙ (item_found on 0 ramps end k (b - 1) d h (omega arith) l (omega arith) below
      (λ i m q. leb-false (slice_index_or ramps i d).start k (p.1 i d (omega arith) q))
      ∙ ap (λ (z : Ramp X). Some (on (k - z.start) z.first)) (sym e))
