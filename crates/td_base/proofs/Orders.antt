-- Dots, identities and bits are in a total order, which tells different ones apart.
use Rattle.std.proofs.Common.{◌≡◌, ◌⊎◌, ◌<◌, ◌≤◌, ◌==◌, ℕ, Bool, true, false, cond, nat_lt, refl}
use Rattle.std.proofs.Common.{sym, subst, inl, inr, ⊎_elim, true≢false, arith}
use Rattle.std.proofs.lemmas.Bool.Decides.{nat_tests}
use Rattle.std.specs.declared.cmp.Ordering.{Ordering}
use Rattle.std.specs.declared.cmp.Ordering.TheVariants.{Less, Equal, Greater}
use Rattle.std.specs.Ordering.{is_eq, is_lt, ordering_then, nat_cmp}
use Rattle.std.specs.Cmp.{IsTotalOrder}
use Rattle.std.proofs.lemmas.Cmp.{nat_cmp_total, on_total, then_total, ranked}
use Rattle.td_base.specs.declared.bit.Bit.{Bit}
use Rattle.td_base.specs.declared.bit.Bit.TheVariants.{Left, Right}
use Rattle.td_base.specs.Value.{DotValue, AtomIdValue}
use Rattle.td_base.specs.Order.{dot_cmp, dot_lt, id_cmp, bit_cmp}

pub dot_total : IsTotalOrder dot_cmp
dot_total = then_total (on_total (λ (d : DotValue). d.site) nat_cmp_total)
    (on_total (λ (d : DotValue). d.seq) nat_cmp_total)

pub id_total : IsTotalOrder id_cmp
id_total = then_total (on_total (λ (x : AtomIdValue). x.dot) dot_total)
    (on_total (λ (x : AtomIdValue). x.offset) nat_cmp_total)

abbrev side_number : Bit → ℕ
side_number Left = 0
side_number Right = 1

bit_numbers : (b c : Bit) → bit_cmp b c ≡ nat_cmp (side_number b) (side_number c)
bit_numbers Left Left = refl
bit_numbers Left Right = refl
bit_numbers Right Left = refl
bit_numbers Right Right = refl

pub bit_total : IsTotalOrder bit_cmp
bit_total =
    subst (λ (f : Bit → Bit → Ordering). IsTotalOrder f) (λ i b c. sym (bit_numbers b c) i)
    (on_total side_number nat_cmp_total)

-- what the orders do not tell apart is one

pub then_equal : (o r : Ordering) → ordering_then o r ≡ Equal → (o ≡ Equal) × (r ≡ Equal)
then_equal Less r e = absurd (less_equal e)
  where
    less_equal : Less ≡ Equal → ⊥
    less_equal h = cc
then_equal Equal r e = (refl, e)
then_equal Greater r e = absurd (greater_equal e)
  where
    greater_equal : Greater ≡ Equal → ⊥
    greater_equal h = cc

pub is_eq_true : (o : Ordering) → is_eq o ≡ true → o ≡ Equal
is_eq_true Equal h = refl
is_eq_true Less h = absurd (true≢false (sym h))
is_eq_true Greater h = absurd (true≢false (sym h))

equal_numbers : (x y : ℕ) → nat_cmp x y ≡ Equal → x ≡ y
equal_numbers x y e = ranked x y Equal (sym e)

pub equal_dots : (d e : DotValue) → dot_cmp d e ≡ Equal → d ≡ e
equal_dots d e h =
    let p = then_equal _ _ h in
    let site = equal_numbers d.site e.site p.0 in
    let seq = equal_numbers d.seq e.seq p.1 in
    λ i. record { site = site i; seq = seq i }

pub equal_ids : (x y : AtomIdValue) → id_cmp x y ≡ Equal → x ≡ y
equal_ids x y h =
    let p = then_equal _ _ h in
    let dot = equal_dots x.dot y.dot p.0 in
    let offset = equal_numbers x.offset y.offset p.1 in
    λ i. record { dot = dot i; offset = offset i }

pub equal_bits : (b c : Bit) → bit_cmp b c ≡ Equal → b ≡ c
equal_bits Left Left h = refl
equal_bits Left Right h = cc
equal_bits Right Left h = cc
equal_bits Right Right h = refl

-- what an answer of a comparison says of two numbers
abbrev pub Compares : ℕ → ℕ → Ordering → Type 0
Compares x y Less = x < y
Compares x y Equal = x ≡ y
Compares x y Greater = y < x

compares_at : (x y : ℕ) (a b : Bool) → nat_lt x y ≡ a → (x == y) ≡ b → Compares x y (cond a Less (cond b Equal Greater))
compares_at x y true b p q = grind (arith, nat_tests)
compares_at x y false true p q = grind (arith, nat_tests)
compares_at x y false false p q = grind (arith, nat_tests)

pub compares : (x y : ℕ) → Compares x y (nat_cmp x y)
compares x y = compares_at x y (nat_lt x y) (x == y) refl refl

same_number : (n : ℕ) (o : Ordering) → Compares n n o → o ≡ Equal
same_number n Less h = absurd (omega arith)
same_number n Equal h = refl
same_number n Greater h = absurd (omega arith)

pub same_number_refl : (n : ℕ) → nat_cmp n n ≡ Equal
same_number_refl n = same_number n (nat_cmp n n) (compares n n)

-- the smaller dot has the smaller site, or the smaller number at one site

dot_lt_true_at : (d e : DotValue) (o p : Ordering) → Compares d.site e.site o → Compares d.seq e.seq p
    → is_lt (ordering_then o p) ≡ true → (d.site < e.site) ⊎ ((d.site ≡ e.site) × (d.seq < e.seq))
dot_lt_true_at d e Less p a b h = inl a
dot_lt_true_at d e Equal Less a b h = inr (a, b)
dot_lt_true_at d e Equal Equal a b h = absurd (true≢false (sym h))
dot_lt_true_at d e Equal Greater a b h = absurd (true≢false (sym h))
dot_lt_true_at d e Greater p a b h = absurd (true≢false (sym h))

pub dot_lt_true : (d e : DotValue) → dot_lt d e ≡ true → (d.site < e.site) ⊎ ((d.site ≡ e.site) × (d.seq < e.seq))
dot_lt_true d e h = dot_lt_true_at d e (nat_cmp d.site e.site) (nat_cmp d.seq e.seq) (compares d.site e.site)
    (compares d.seq e.seq) h

-- and what is not smaller has no smaller site, and at one site no smaller number

dot_lt_false_at : (d e : DotValue) (o p : Ordering) → Compares d.site e.site o → Compares d.seq e.seq p
    → is_lt (ordering_then o p) ≡ false → (e.site ≤ d.site) × (e.site ≡ d.site → e.seq ≤ d.seq)
dot_lt_false_at d e Less p a b h = absurd (true≢false h)
dot_lt_false_at d e Equal Less a b h = absurd (true≢false h)
dot_lt_false_at d e Equal Equal a b h = (omega arith, λ k. omega arith)
dot_lt_false_at d e Equal Greater a b h = (omega arith, λ k. omega arith)
dot_lt_false_at d e Greater p a b h = (omega arith, λ k. omega arith)

pub dot_lt_false : (d e : DotValue) → dot_lt d e ≡ false → (e.site ≤ d.site) × (e.site ≡ d.site → e.seq ≤ d.seq)
dot_lt_false d e h =
    dot_lt_false_at d e (nat_cmp d.site e.site) (nat_cmp d.seq e.seq) (compares d.site e.site) (compares d.seq e.seq) h

dot_lt_from_at : (d e : DotValue) (o p : Ordering) → Compares d.site e.site o → Compares d.seq e.seq p
    → (d.site < e.site) ⊎ ((d.site ≡ e.site) × (d.seq < e.seq)) → is_lt (ordering_then o p) ≡ true
dot_lt_from_at d e Less p a b h = refl
dot_lt_from_at d e Equal Less a b h = refl
dot_lt_from_at d e Equal Equal a b h = absurd (⊎_elim (λ (k : d.site < e.site). omega arith)
    (λ (k : (d.site ≡ e.site) × (d.seq < e.seq)). omega (arith, k.1)) h)
dot_lt_from_at d e Equal Greater a b h = absurd
    (⊎_elim (λ (k : d.site < e.site). omega arith) (λ (k : (d.site ≡ e.site) × (d.seq < e.seq)). omega (arith, k.1)) h)
dot_lt_from_at d e Greater p a b h = absurd (⊎_elim (λ (k : d.site < e.site). omega arith)
    (λ (k : (d.site ≡ e.site) × (d.seq < e.seq)). omega (arith, k.0)) h)

pub dot_lt_from : (d e : DotValue) → (d.site < e.site) ⊎ ((d.site ≡ e.site) × (d.seq < e.seq)) → dot_lt d e ≡ true
dot_lt_from d e h = dot_lt_from_at d e (nat_cmp d.site e.site) (nat_cmp d.seq e.seq) (compares d.site e.site)
    (compares d.seq e.seq) h

-- an order is told from the test of it

pub less_of : (o : Ordering) → is_lt o ≡ true → o ≡ Less
less_of Less h = refl
less_of Equal h = absurd (true≢false (sym h))
less_of Greater h = absurd (true≢false (sym h))

-- no two dots are each before the other

pub dot_apart : (d e : DotValue) → dot_lt d e ≡ true → dot_lt e d ≡ true → ⊥
dot_apart d e h k =
    ⊎_elim
    (λ (a : d.site < e.site). ⊎_elim (λ (b : e.site < d.site). omega arith)
    (λ (b : (e.site ≡ d.site) × (e.seq < d.seq)). omega arith) (dot_lt_true e d k))
    (λ (a : (d.site ≡ e.site) × (d.seq < e.seq)). ⊎_elim (λ (b : e.site < d.site). omega arith)
    (λ (b : (e.site ≡ d.site) × (e.seq < d.seq)). omega arith) (dot_lt_true e d k))
    (dot_lt_true d e h)
