-- The order of slots, and which is better.
use Rattle.std.proofs.Common.{◌≡◌, ◌⊎◌, ◌<◌, ℕ, List, true, false, ◌&&◌, nat_lt, nat_eq}
use Rattle.std.proofs.Common.{refl, sym, ap, ◌∙◌, inl, inr, ⊎_elim, true≢false, arith}
use Rattle.std.proofs.lemmas.Bool.{cases_order}
use Rattle.std.proofs.lemmas.Bool.{and_parts, and_from, or_left, or_right, or_cases, eq-eqb}
use Rattle.std.proofs.lemmas.Bool.{eqb-true, ltb-true, lt-ltb, false_from_ne_true}
use Rattle.std.proofs.lemmas.Cmp.{on_total, then_total}
use Rattle.std.specs.Cmp.{IsTotalOrder}
use Rattle.std.specs.Ordering.{ordering_then, ordering_reverse, is_lt}
use Rattle.std.specs.declared.cmp.Ordering.{Ordering}
use Rattle.std.specs.declared.cmp.Ordering.TheVariants.{Less, Equal, Greater}
use Rattle.td_base.specs.declared.bit.Bit.{Bit}
use Rattle.td_base.specs.Order.{id_cmp, bit_cmp}
use Rattle.td_base.specs.Value.{AtomIdValue}
use Rattle.td_base.proofs.Orders.{id_total, bit_total, less_of, then_equal, equal_ids, equal_bits}
use Rattle.td_path.specs.declared.slot.Slot.{Slot}
use Rattle.td_path.specs.declared.slot.Slot.TheVariants.{Root, At}
use Rattle.td_doc.specs.Document.{DocRow}
use Rattle.td_idle.specs.Best.{row_count, slot_cmp, is_over, is_better}

-- ---- the order of slots

abbrev Side : Type 0
Side = AtomIdValue × Bit

abbrev side_cmp : Side → Side → Ordering
side_cmp p q = ordering_then (id_cmp p.0 q.0) (bit_cmp p.1 q.1)

side_total : IsTotalOrder side_cmp
side_total = then_total (on_total (λ (p : Side). p.0) id_total) (on_total (λ (p : Side). p.1) bit_total)

slot_trans : (s t u : Slot) → slot_cmp s t ≡ Less → slot_cmp t u ≡ Less → slot_cmp s u ≡ Less
slot_trans Root Root u h k = absurd cc
slot_trans Root (At y c) Root h k = absurd cc
slot_trans Root (At y c) (At z e) h k = refl
slot_trans (At x b) Root u h k = absurd cc
slot_trans (At x b) (At y c) Root h k = absurd cc
slot_trans (At x b) (At y c) (At z e) h k = side_total.trans (x, b) (y, c) (z, e) h k

not_itself : (o : Ordering) → o ≡ ordering_reverse o → o ≡ Less → ⊥
not_itself Less h k = cc
not_itself Equal h k = cc
not_itself Greater h k = cc

slot_irrefl : (s : Slot) → slot_cmp s s ≡ Less → ⊥
slot_irrefl Root h = cc
slot_irrefl (At x b) h = not_itself (side_cmp (x, b) (x, b)) (side_total.antisymm (x, b) (x, b)) h

-- ---- better

-- t has more rows than s, or as many, and stands before it
abbrev pub IsBetter : List DocRow → Slot → Slot → Type 0
IsBetter rows t s = (row_count rows s < row_count rows t)
    ⊎ ((row_count rows t ≡ row_count rows s) × (slot_cmp t s ≡ Less))

pub better_of : (rows : List DocRow) (t s : Slot) → is_better rows t s ≡ true → IsBetter rows t s
better_of rows t s h =
    ⊎_elim
    (λ (k : nat_lt (row_count rows s) (row_count rows t) ≡ true). inl
    (ltb-true (row_count rows s) (row_count rows t) k))
    (λ (k : (nat_eq (row_count rows s) (row_count rows t) && is_lt (slot_cmp t s)) ≡ true).
    let p = and_parts (nat_eq (row_count rows s) (row_count rows t)) (is_lt (slot_cmp t s)) k in
    inr (sym (eqb-true (row_count rows s) (row_count rows t) p.0), less_of (slot_cmp t s) p.1))
    (or_cases (nat_lt (row_count rows s) (row_count rows t))
    (nat_eq (row_count rows s) (row_count rows t) && is_lt (slot_cmp t s)) h)

pub better_from : (rows : List DocRow) (t s : Slot) → IsBetter rows t s → is_better rows t s ≡ true
better_from rows t s (inl k) =
    or_left (nat_lt (row_count rows s) (row_count rows t))
    (nat_eq (row_count rows s) (row_count rows t) && is_lt (slot_cmp t s))
    (lt-ltb (row_count rows s) (row_count rows t) k)
better_from rows t s (inr k) =
    or_right (nat_lt (row_count rows s) (row_count rows t))
    (nat_eq (row_count rows s) (row_count rows t) && is_lt (slot_cmp t s))
    (and_from (nat_eq (row_count rows s) (row_count rows t)) (is_lt (slot_cmp t s))
    (eq-eqb (row_count rows s) (row_count rows t) (sym k.0)) (ap is_lt k.1))

pub not_better : (rows : List DocRow) (t s : Slot) → ¬ IsBetter rows t s → is_better rows t s ≡ false
not_better rows t s h = false_from_ne_true (is_better rows t s) (λ k. h (better_of rows t s k))

pub better_trans : (rows : List DocRow) (s t u : Slot) → IsBetter rows s t → IsBetter rows t u → IsBetter rows s u
better_trans rows s t u (inl h) (inl k) = inl (omega (arith, h, k))
better_trans rows s t u (inl h) (inr k) = let e : row_count rows t ≡ row_count rows u = k.0 in inl (omega (arith, h, e))
better_trans rows s t u (inr h) (inl k) = let e : row_count rows s ≡ row_count rows t = h.0 in inl (omega (arith, e, k))
better_trans rows s t u (inr h) (inr k) = inr (h.0 ∙ k.0, slot_trans s t u h.1 k.1)

pub better_irrefl : (rows : List DocRow) (s : Slot) → ¬ IsBetter rows s s
better_irrefl rows s (inl h) = omega (arith, h)
better_irrefl rows s (inr h) = slot_irrefl s h.1

-- ---- with the number of rows at hand

pub over_is : (rows : List DocRow) (t s : Slot) (n k : ℕ) → n ≡ row_count rows t → k ≡ row_count rows s
    → is_over t n s k ≡ is_better rows t s
over_is rows t s n k e f = λ i. is_over t (e i) s (f i)

-- ---- neither is better

equal_slots : (t s : Slot) → slot_cmp t s ≡ Equal → t ≡ s
equal_slots Root Root e = refl
equal_slots Root (At y c) e = absurd cc
equal_slots (At x b) Root e = absurd cc
equal_slots (At x b) (At y c) e =
    let parts = then_equal (id_cmp x y) (bit_cmp b c) e in
    λ i. At (equal_ids x y parts.0 i) (equal_bits b c parts.1 i)

reversed : (t s : Slot) → slot_cmp t s ≡ Greater → slot_cmp s t ≡ Less
reversed Root Root e = absurd cc
reversed Root (At y c) e = absurd cc
reversed (At x b) Root e = refl
reversed (At x b) (At y c) e = side_total.antisymm (y, c) (x, b) ∙ ap ordering_reverse e

pub neither_better : (rows : List DocRow) (t s : Slot) → is_better rows t s ≡ false → is_better rows s t ≡ false → t ≡ s
neither_better rows t s h k = by (cases_order (row_count rows t) (row_count rows s))
  where
    worse : (a b : Slot) → is_better rows a b ≡ false → ¬ IsBetter rows a b
    worse a b q i = true≢false (sym (better_from rows a b i) ∙ q)

    placed : row_count rows t ≡ row_count rows s → (o : Ordering) → slot_cmp t s ≡ o → t ≡ s
    placed e Less q = absurd (worse t s h (inr (e, q)))
    placed e Equal q = equal_slots t s q
    placed e Greater q = absurd (worse s t k (inr (sym e, reversed t s q)))

    by : (row_count rows t ≡ row_count rows s)
        ⊎ ((row_count rows t < row_count rows s) ⊎ (row_count rows s < row_count rows t)) → t ≡ s
    by (inl q) = placed q (slot_cmp t s) refl
    by (inr (inl q)) = absurd (worse s t k (inl q))
    by (inr (inr q)) = absurd (worse t s h (inl q))
