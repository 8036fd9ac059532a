-- The entries of a map by dots: what is found, taken away and put in.
use Rattle.std.proofs.Common.{◌≡◌, ◌<◌, ◌≤◌, ◌^◌, ◌+◌, ◌-◌, ℕ, [], ◌∷◌, length, Bool, true, false, cond}
use Rattle.std.proofs.Common.{not, if◌then◌else◌, is_some, Some, refl, sym, ap, ◌∙◌, subst, true≢false, arith}
use Rattle.std.proofs.lemmas.Cmp.{tied_itself}
use Rattle.std.specs.declared.cmp.Ordering.{Ordering}
use Rattle.std.specs.declared.cmp.Ordering.TheVariants.{Less, Equal, Greater}
use Rattle.std.specs.Ordering.{is_eq, is_lt, match_ordering, ordering_reverse}
use Rattle.std.specs.BTreeMap.{is_at, insert_entry}
use Rattle.std.specs.List.{AllByRecursion}
use Rattle.std.specs.List.Sorted.{IsStrictlySortedBy}
use Rattle.std.specs.Map.{lookup, keys_of, remove_entry}
use Rattle.td_base.specs.Value.{DotValue, IsDot}
use Rattle.td_base.specs.Order.{dot_cmp, dot_lt}
use Rattle.td_base.specs.Equality.{same_dot}
use Rattle.td_base.specs.Lists.{Successive}
use Rattle.td_base.proofs.Elements.{both_tests}
use Rattle.td_base.proofs.Equals.{same_dot_true, same_dot_refl, same_dot_other}
use Rattle.td_base.proofs.Lists.{all_in, successive_filter}
use Rattle.td_base.proofs.Orders.{dot_total, equal_dots, is_eq_true}
use Rattle.td_base.proofs.Searches.{filter_all}
use Rattle.td_causal.specs.Waiting.{Numbers, number_of, is_kept, put_in_order, others_than}
use Rattle.td_causal.specs.BufferParts.{AreEntries}
use Rattle.td_causal.proofs.Kept.{All-put_in_order, All-others_than}

-- w has a smaller dot than each of these
abbrev Below : DotValue × ℕ → Numbers → Type 0
Below w ws = AllByRecursion (λ (v : DotValue × ℕ). dot_lt w.0 v.0 ≡ true) ws

abbrev Rising : Numbers → Type 0
Rising ws = Successive (λ (w v : DotValue × ℕ). dot_lt w.0 v.0 ≡ true) ws

-- ---- dots

same_test : (d e : DotValue) → is_eq (dot_cmp d e) ≡ same_dot e d
same_test d e =
    both_tests (is_eq (dot_cmp d e)) (same_dot e d)
    (λ h.
    let one : d ≡ e = equal_dots d e (is_eq_true (dot_cmp d e) h) in
    subst (λ (x : DotValue). same_dot e x ≡ true) (sym one) (same_dot_refl e))
    (λ h.
    let one : e ≡ d = same_dot_true e d h in
    ap is_eq (subst (λ (x : DotValue). dot_cmp d x ≡ Equal) (sym one) (tied_itself dot_total d)))

-- two dots the other way round
turned : (d e : DotValue) (o : Ordering) → dot_cmp d e ≡ o → dot_lt e d ≡ is_lt (ordering_reverse o)
turned d e o h = ap is_lt (dot_total.antisymm e d ∙ ap ordering_reverse h)

pub later_other : (d e : DotValue) → dot_lt d e ≡ true → same_dot e d ≡ false
later_other d e h =
    same_dot_other e d (λ (one : e ≡ d).
    let itself : dot_lt d d ≡ true = subst (λ (x : DotValue). dot_lt d x ≡ true) one h in
    true≢false (sym itself ∙ ap is_lt (tied_itself dot_total d)))

-- ---- what is found

pub lookup_number : (d : DotValue) (es : Numbers) → lookup (is_at (dot_cmp d)) es ≡ number_of d es
lookup_number d [] = refl
lookup_number d (e ∷ es) = λ i. cond (same_test d e.0 i) (Some e.1) (lookup_number d es i)

-- ---- without the entry of a dot

removed_at : (d : DotValue) (e : DotValue × ℕ) (es rest : Numbers) (b : Bool) → same_dot e.0 d ≡ b → Below e es
    → rest ≡ others_than d es
    → cond b es (e ∷ rest) ≡ cond (not b) (e ∷ others_than d es) (others_than d es)
removed_at d e es rest true h below ih =
    let same : e.0 ≡ d = same_dot_true e.0 d h in
    let other : (w : DotValue × ℕ) → dot_lt e.0 w.0 ≡ true → same_dot w.0 d ≡ false =
    λ w lt. later_other d w.0 (subst (λ (x : DotValue). dot_lt x w.0 ≡ true) same lt) in
    sym (filter_all (λ (w : DotValue × ℕ). not (same_dot w.0 d)) es
    (λ w i. ap not (other w (all_in (λ (v : DotValue × ℕ). dot_lt e.0 v.0 ≡ true) es below w i))))
removed_at d e es rest false h below ih = ap (λ (ws : Numbers). e ∷ ws) ih

removed : (d : DotValue) (es : Numbers) → Rising es → remove_entry (is_at (dot_cmp d)) es ≡ others_than d es
removed d [] r = refl
removed d (e ∷ es) r =
    ap (λ (b : Bool). cond b es (e ∷ remove_entry (is_at (dot_cmp d)) es)) (same_test d e.0)
    ∙ removed_at d e es (remove_entry (is_at (dot_cmp d)) es) (same_dot e.0 d) refl r.0 (removed d es r.1)

shorter : (d : DotValue) (es : Numbers) → length (others_than d es) ≤ length es
shorter d [] = omega arith
shorter d (e ∷ es) = at (same_dot e.0 d) (shorter d es)
  where
    at : (b : Bool) → length (others_than d es) ≤ length es
        → length (cond (not b) (e ∷ others_than d es) (others_than d es)) ≤ length (e ∷ es)
    at true ih = omega (arith, ih)
    at false ih = omega (arith, ih)

pub entries_removed : (d : DotValue) (es fs : Numbers) → fs ≡ remove_entry (is_at (dot_cmp d)) es → AreEntries es
    → AreEntries fs × (fs ≡ others_than d es)
entries_removed d es fs is a =
    let others : fs ≡ others_than d es = is ∙ removed d es a.rising in (
      subst AreEntries (sym others) (record {
        dots = All-others_than (λ (w : DotValue × ℕ). IsDot w.0) d es a.dots;
        rising = successive_filter (λ (w v : DotValue × ℕ). dot_lt w.0 v.0 ≡ true)
            (λ (w : DotValue × ℕ). not (same_dot w.0 d)) es a.rising;
        few = omega (arith, a.few, shorter d es);
      }),
      others,
    )

-- ---- with an entry of a dot that does not wait

inserted_at : (d : DotValue) (k : ℕ) (e : DotValue × ℕ) (es rest : Numbers) (o : Ordering) → dot_cmp d e.0 ≡ o
    → same_dot e.0 d ≡ false → rest ≡ put_in_order (d, k) es
    → match_ordering o ((d, k) ∷ e ∷ es) ((e.0, k) ∷ es) (e ∷ rest) ≡ put_in_order (d, k) (e ∷ es)
inserted_at d k e es rest Less h other ih =
    ap (λ (b : Bool). cond b (e ∷ put_in_order (d, k) es) ((d, k) ∷ e ∷ es)) (sym (turned d e.0 Less h))
inserted_at d k e es rest Equal h other ih = absurd (true≢false (sym (ap is_eq h) ∙ same_test d e.0 ∙ other))
inserted_at d k e es rest Greater h other ih =
    ap (λ (ws : Numbers). e ∷ ws) ih
    ∙ ap (λ (b : Bool). cond b (e ∷ put_in_order (d, k) es) ((d, k) ∷ e ∷ es)) (sym (turned d e.0 Greater h))

-- a dot that does not wait is another than the first, and does not wait behind it
record IsOther (d : DotValue) (e : DotValue × ℕ) (es : Numbers) : Type 0 where
  first : same_dot e.0 d ≡ false
  later : is_kept d es ≡ false

other_of : (d : DotValue) (e : DotValue × ℕ) (es : Numbers) → is_kept d (e ∷ es) ≡ false → IsOther d e es
other_of d e es new = at (same_dot e.0 d) refl new
  where
    at : (b : Bool) → same_dot e.0 d ≡ b → is_some (cond b (Some e.1) (number_of d es)) ≡ false → IsOther d e es
    at true h n = absurd (true≢false n)
    at false h n = record { first = h; later = n }

inserted : (d : DotValue) (k : ℕ) (es : Numbers) → is_kept d es ≡ false
    → insert_entry dot_cmp es d k ≡ put_in_order (d, k) es
inserted d k [] new = refl
inserted d k (e ∷ es) new =
    let other = other_of d e es new in
    inserted_at d k e es (insert_entry dot_cmp es d k) (dot_cmp d e.0) refl other.first
    (inserted d k es other.later)

-- keys in order are dots that rise

below_keys : (w : DotValue × ℕ) (es : Numbers)
    → AllByRecursion (λ (k : DotValue). dot_cmp w.0 k ≡ Less) (keys_of es) → Below w es
below_keys w [] h = tt
below_keys w (e ∷ es) h = (ap is_lt h.0, below_keys w es h.1)

rising_keys : (es : Numbers) → IsStrictlySortedBy dot_cmp (keys_of es) → Rising es
unfolding IsStrictlySortedBy
rising_keys [] h = tt
rising_keys (e ∷ es) h = (below_keys e es h.0, rising_keys es h.1)

pub few_more : (b : Bool) (m n : ℕ) → n ≡ m + (if b then 0 else 1) → m < 2 ^ 32 - 1 → n < 2 ^ 32
few_more true m n e h = omega (arith, e, h)
few_more false m n e h = omega (arith, e, h)

pub entries_inserted : (d : DotValue) (k : ℕ) (es fs : Numbers) → fs ≡ insert_entry dot_cmp es d k → AreEntries es
    → IsDot d → is_kept d es ≡ false → IsStrictlySortedBy dot_cmp (keys_of fs) → length fs < 2 ^ 32
    → AreEntries fs × (fs ≡ put_in_order (d, k) es)
entries_inserted d k es fs is a range new ordered few =
    let put : fs ≡ put_in_order (d, k) es = is ∙ inserted d k es new in (
      record {
        dots = subst (AllByRecursion (λ (w : DotValue × ℕ). IsDot w.0)) (sym put)
            (All-put_in_order (λ (w : DotValue × ℕ). IsDot w.0) (d, k) es range a.dots);
        rising = rising_keys fs ordered;
        few = few;
      },
      put,
    )
