-- Names by the operations that are listed under an atom, and as bits.
use Rattle.std.proofs.Common.{◌≡◌, ◌⊎◌, ◌<◌, ◌≤◌, ◌+◌, ◌-◌, ◌*◌, ◌%◌, ◌^◌, ◌==◌, ◌&&◌, ◌||◌, ℕ, zero, suc, List, []}
use Rattle.std.proofs.Common.{◌∷◌, Bool, true, false, not, if◌then◌else◌, Option, Some, None, refl, sym, ap, ◌∙◌}
use Rattle.std.proofs.Common.{subst, inl, inr, arith, add-one, one-mul, length, take, get_or}
use Rattle.std.specs.Prelude.{slice_get}
use Rattle.std.specs.Int.{bit_at}
use Rattle.std.specs.Int.RustNames.{bit_or}
use Rattle.std.specs.List.{list_any, cons_option}
use Rattle.std.proofs.Math.Bool.{or-false, and-false}
use Rattle.std.proofs.Math.Nat.{two-pow-succ}
use Rattle.std.proofs.lemmas.List.{take_more}
use Rattle.std.proofs.lemmas.List.Folds.{list_any-append}
use Rattle.std.proofs.lemmas.Bool.{and_parts, cases_eq}
use Rattle.std.proofs.lemmas.Nat.{one_shl, or_shifted, or_comm}
use Rattle.std.proofs.lemmas.Nat.Bits.{bit_at_cat_low, bit_at_cat_high}
use Rattle.td_base.specs.Equality.{same_id}
use Rattle.td_base.specs.Lists.{In}
use Rattle.td_base.specs.Value.{DotValue, AtomIdValue}
use Rattle.td_base.proofs.Elements.{both_tests, In-slice_get}
use Rattle.td_base.proofs.Equals.{same_id_true}
use Rattle.td_base.proofs.Lists.{any_found, any_from}
use Rattle.td_base.proofs.Places.{place_of}
use Rattle.td_clock.specs.Vector.{vector_has, vector_join}
use Rattle.td_clock.proofs.VectorLemmas.{join_dots}
use Rattle.td_marks.specs.Index.{ops_at, passes}
use Rattle.td_marks.specs.Mark.{MarkOpValue, is_about, adds, removes, has_name, bits_below}
use Rattle.td_marks.specs.Marks.{IsInTurn}
use Rattle.td_marks.proofs.Counts.{numbered}

-- ---- the operations that are listed

pub about_names : (x : AtomIdValue) (m : ℕ) (o : MarkOpValue) → is_about x m o ≡ true → In x o.atoms
about_names x m o h =
    let p = and_parts (o.name == m) (list_any (λ (y : AtomIdValue). same_id y x) o.atoms) h in
    let f = any_found (λ (y : AtomIdValue). same_id y x) o.atoms p.1 in
    subst (λ (y : AtomIdValue). In y o.atoms) (same_id_true f.0 x f.2) f.1

In_at : (ops : List MarkOpValue) (numbers : List ℕ) (k : ℕ) (o : MarkOpValue) → In k numbers → slice_get ops k ≡ Some o
    → In o (ops_at ops numbers)
In_at ops [] k o i e = absurd i
In_at ops (n ∷ numbers) k o (inl same) e =
    subst (λ (found : Option MarkOpValue). In o (cons_option found (ops_at ops numbers)))
    (sym (ap (slice_get ops) (sym same) ∙ e)) (inl refl)
In_at ops (n ∷ numbers) k o (inr i) e = behind (slice_get ops n) (In_at ops numbers k o i e)
  where
    behind : (found : Option MarkOpValue) → In o (ops_at ops numbers) → In o (cons_option found (ops_at ops numbers))
    behind None h = h
    behind (Some q) h = inr h

at_In : (ops : List MarkOpValue) (numbers : List ℕ) (o : MarkOpValue) → In o (ops_at ops numbers) → In o ops
at_In ops [] o i = absurd i
at_In ops (n ∷ numbers) o i = at (slice_get ops n) refl (at_In ops numbers o) i
  where
    at : (found : Option MarkOpValue) → slice_get ops n ≡ found → (In o (ops_at ops numbers) → In o ops)
        → In o (cons_option found (ops_at ops numbers)) → In o ops
    at None e ih k = ih k
    at (Some q) e ih (inl same) = subst (λ (z : MarkOpValue). In z ops) (sym same) (In-slice_get ops n q e)
    at (Some q) e ih (inr k) = ih k

-- a test that only what is listed passes
any_listed : (ops : List MarkOpValue) (numbers : List ℕ) (test : MarkOpValue → Bool)
    → ((k : ℕ) (o : MarkOpValue) → slice_get ops k ≡ Some o → test o ≡ true → In k numbers)
    → list_any test (ops_at ops numbers) ≡ list_any test ops
any_listed ops numbers test h =
    both_tests (list_any test (ops_at ops numbers)) (list_any test ops)
    (λ e. let f = any_found test (ops_at ops numbers) e in any_from test ops f.0 (at_In ops numbers f.0 f.1) f.2)
    (λ e.
    let f = any_found test ops e in
    let k = place_of ops f.0 f.1 in
    any_from test (ops_at ops numbers) f.0 (In_at ops numbers k.0 f.0 (h k.0 f.0 k.1 f.2) k.1) f.2)

pub any_at : (ops : List MarkOpValue) (numbers : List ℕ) (test : MarkOpValue → Bool)
    → list_any (λ (k : ℕ). passes test (slice_get ops k)) numbers ≡ list_any test (ops_at ops numbers)
any_at ops [] test = refl
any_at ops (n ∷ numbers) test = at (slice_get ops n) (any_at ops numbers test)
  where
    at : (found : Option MarkOpValue)
        → list_any (λ (k : ℕ). passes test (slice_get ops k)) numbers ≡ list_any test (ops_at ops numbers)
        → (passes test found || list_any (λ (k : ℕ). passes test (slice_get ops k)) numbers)
        ≡ list_any test (cons_option found (ops_at ops numbers))
    at None ih = ih
    at (Some q) ih = ap (λ (b : Bool). test q || b) ih

same_any : (p q : MarkOpValue → Bool) (ops : List MarkOpValue) → ((o : MarkOpValue) → In o ops → p o ≡ q o)
    → list_any p ops ≡ list_any q ops
same_any p q [] h = refl
same_any p q (o ∷ ops) h = λ i. h o (inl refl) i || same_any p q ops (λ r j. h r (inr j)) i

-- the name, where all that is about the atom is listed, and it is known what was removed
pub named_by : (ops : List MarkOpValue) (numbers removed : List ℕ) (x : AtomIdValue) (m : ℕ) → IsInTurn ops
    → ((k : ℕ) (o : MarkOpValue) → slice_get ops k ≡ Some o → In x o.atoms → In k numbers)
    → ((d : DotValue) → 1 ≤ d.seq → vector_has removed d ≡ list_any (removes x m d) (ops_at ops numbers))
    → list_any (λ (k : ℕ). passes (λ (a : MarkOpValue). adds x m a && not (vector_has removed a.dot)) (slice_get ops k))
    numbers
    ≡ has_name ops x m
named_by ops numbers removed x m turn listed seen =
    any_at ops numbers stands
    ∙ any_listed ops numbers stands
    (λ k o e h. listed k o e (about_names x m o
    (and_parts o.add (is_about x m o) (and_parts (adds x m o) (not (vector_has removed o.dot)) h).0).1))
    ∙ same_any stands (λ (a : MarkOpValue). adds x m a && not (list_any (removes x m a.dot) ops)) ops
    (λ o i j. adds x m o && not (all_seen o.dot (numbered ops turn o i) j))
  where
    stands : MarkOpValue → Bool
    stands a = adds x m a && not (vector_has removed a.dot)

    all_seen : (d : DotValue) → 1 ≤ d.seq → vector_has removed d ≡ list_any (removes x m d) ops
    all_seen d some =
        seen d some
        ∙ any_listed ops numbers (removes x m d)
        (λ k o e h. listed k o e (about_names x m o
        (and_parts (not o.add) (is_about x m o)
        (and_parts (not o.add && is_about x m o) (vector_has o.seen d) h).0).1))

-- ---- what removals had seen

length_join : (v w : List ℕ) → length v ≡ length w → length (vector_join v w) ≡ length v
length_join v [] e = refl
length_join [] (n ∷ w) e = sym e
length_join (m ∷ v) (n ∷ w) e = ap suc (length_join v w (omega (arith, e)))

-- a removal is joined
pub joined_size : (n : ℕ) (old new : List ℕ) (o : MarkOpValue) → length old ≡ n → length o.seen ≡ n
    → new ≡ vector_join old o.seen → length new ≡ n
joined_size n old new o h k e = ap length e ∙ length_join old o.seen (h ∙ sym k) ∙ h

pub joined_seen : (x : AtomIdValue) (m : ℕ) (o : MarkOpValue) (found : Option MarkOpValue) (old new : List ℕ)
    → found ≡ Some o → o.add ≡ false → is_about x m o ≡ true → new ≡ vector_join old o.seen → (d : DotValue)
    → vector_has new d ≡ (vector_has old d || passes (removes x m d) found)
joined_seen x m o found old new e off about j d =
    let one : removes x m d o ≡ vector_has o.seen d =
    (λ i. (not (off i) && about i) && vector_has o.seen d) in
    ap (λ (v : List ℕ). vector_has v d) j
    ∙ join_dots old o.seen d
    ∙ ap (λ (b : Bool). vector_has old d || b) (sym one)
    ∙ ap (λ (f : Option MarkOpValue). vector_has old d || passes (removes x m d) f) (sym e)

-- another operation is not
pub nothing_seen : (x : AtomIdValue) (m : ℕ) (o : MarkOpValue) (found : Option MarkOpValue) (old : List ℕ)
    → found ≡ Some o → (o.add ≡ true) ⊎ (is_about x m o ≡ false) → (d : DotValue)
    → vector_has old d ≡ (vector_has old d || passes (removes x m d) found)
nothing_seen x m o found old e other d =
    sym (or-false (vector_has old d))
    ∙ ap (λ (b : Bool). vector_has old d || b) (sym (none other))
    ∙ ap (λ (f : Option MarkOpValue). vector_has old d || passes (removes x m d) f) (sym e)
  where
    none : (o.add ≡ true) ⊎ (is_about x m o ≡ false) → removes x m d o ≡ false
    none (inl add) = λ i. (not (add i) && is_about x m o) && vector_has o.seen d
    none (inr about) =
        (λ i. (not o.add && about i) && vector_has o.seen d)
        ∙ ap (λ (b : Bool). b && vector_has o.seen d) (and-false (not o.add))

-- with one number more
pub any_more : (ops : List MarkOpValue) (numbers : List ℕ) (i : ℕ) (test : MarkOpValue → Bool) → i < length numbers
    → list_any test (ops_at ops (take (i + 1) numbers))
    ≡ (list_any test (ops_at ops (take i numbers)) || passes test (slice_get ops (get_or numbers i 0)))
any_more ops numbers i test h =
    let each : ℕ → Bool = λ (k : ℕ). passes test (slice_get ops k) in
    sym (any_at ops (take (i + 1) numbers) test)
    ∙ ap (list_any each) (take_more numbers i 0 h)
    ∙ list_any-append each (take i numbers) (get_or numbers i 0 ∷ [])
    ∙ ap (λ (b : Bool). list_any each (take i numbers) || b) (or-false (each (get_or numbers i 0)))
    ∙ ap (λ (b : Bool). b || each (get_or numbers i 0)) (any_at ops (take i numbers) test)

-- ---- bits

pub bits_small : (n : ℕ) (has : ℕ → Bool) → bits_below n has < 2 ^ n
bits_small zero has = omega arith
bits_small (suc n) has = at (has n) (bits_small n has)
  where
    at : (b : Bool) → bits_below n has < 2 ^ n → bits_below n has + (if b then 2 ^ n else 0) < 2 ^ suc n
    at true h = omega (arith, h, two-pow-succ n)
    at false h = omega (arith, h, two-pow-succ n)

more : (n : ℕ) (has : ℕ → Bool) (b : Bool) → has n ≡ b
    → bits_below n has + (if b then 2 ^ n else 0) ≡ bits_below (n + 1) has
more n has b e =
    ap (λ (c : Bool). bits_below n has + (if c then 2 ^ n else 0)) (sym e)
    ∙ ap (λ (k : ℕ). bits_below k has) (sym (add-one n))

-- one more bit is set
pub bit_set : (n : ℕ) (has : ℕ → Bool) (bits : ℕ) → n < 32 → bits ≡ bits_below n has → has n ≡ true
    → bit_or bits (1 * 2 ^ n % 2 ^ 32) ≡ bits_below (n + 1) has
bit_set n has bits within e h =
    let shifted = or_shifted 1 n (bits_below n has) (bits_small n has) in
    ap (λ (k : ℕ). bit_or k (1 * 2 ^ n % 2 ^ 32)) e
    ∙ ap (bit_or (bits_below n has)) (one_shl n 32 within)
    ∙ or_comm (bits_below n has) (2 ^ n)
    ∙ (ap (λ (k : ℕ). bit_or k (bits_below n has)) (sym (one-mul (2 ^ n))) ∙ shifted ∙ omega arith)
    ∙ more n has true h

-- or it is not
pub bit_left : (n : ℕ) (has : ℕ → Bool) (bits : ℕ) → bits ≡ bits_below n has → has n ≡ false
    → bits ≡ bits_below (n + 1) has
bit_left n has bits e h = omega (arith, e, more n has false h)

-- ---- each bit

below_cat : (n bits : ℕ) (b : Bool) → bits + (if b then 2 ^ n else 0) ≡ (if b then 1 else 0) * 2 ^ n + bits
below_cat n bits true = omega arith
below_cat n bits false = omega arith

lowest : (b : Bool) (k : ℕ) → k ≡ 0 → bit_at (if b then 1 else 0) k ≡ (if b then 1 else 0)
lowest true k e = ap (bit_at 1) e
lowest false k e = ap (bit_at 0) e

not_last : (m n : ℕ) → m < suc n → (m ≡ n → ⊥) → m < n
not_last m n h other = omega (arith, other)

next_bit : (n : ℕ) (has : ℕ → Bool) (m : ℕ) → m < suc n
    → (m < n → bit_at (bits_below n has) m ≡ (if has m then 1 else 0)) → (m ≡ n) ⊎ (m ≡ n → ⊥)
    → bit_at (bits_below (suc n) has) m ≡ (if has m then 1 else 0)
next_bit n has m h ih (inl same) =
    ap (λ (k : ℕ). bit_at k m) (below_cat n (bits_below n has) (has n))
    ∙ bit_at_cat_high (if has n then 1 else 0) n (bits_below n has) m (bits_small n has) (omega (arith, same))
    ∙ lowest (has n) (m - n) (omega (arith, same))
    ∙ ap (λ (k : ℕ). if has k then 1 else 0) (sym same)
next_bit n has m h ih (inr other) =
    ap (λ (k : ℕ). bit_at k m) (below_cat n (bits_below n has) (has n))
    ∙ bit_at_cat_low (if has n then 1 else 0) n (bits_below n has) m (not_last m n h other)
    ∙ ih (not_last m n h other)

-- a bit is set where the test holds
pub bit_tells : (n : ℕ) (has : ℕ → Bool) (m : ℕ) → m < n → bit_at (bits_below n has) m ≡ (if has m then 1 else 0)
bit_tells zero has m h = absurd (omega arith)
bit_tells (suc n) has m h = next_bit n has m h (bit_tells n has m) (cases_eq m n)
