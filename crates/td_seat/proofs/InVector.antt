-- Vectors of operations, when a number of theirs changes.
use Rattle.std.proofs.Common.{◌≡◌, ◌<◌, ◌≤◌, ℕ, zero, suc, List, [], ◌∷◌, Bool, true, false, if◌then◌else◌, length}
use Rattle.std.proofs.Common.{get_or, set, Some, None, refl, ap, ⊎_elim, arith}
use Rattle.std.specs.Prelude.{nat_le}
use Rattle.std.specs.List.{list_all}
use Rattle.std.proofs.lemmas.Bool.{and_parts, and_from, and_left, and_right, and_cases, le-leb, lt-leb, leb-false}
use Rattle.td_base.specs.declared.dot.TheConstants.{MAX_SEQ}
use Rattle.td_law_replay.specs.Counting.{in_vector}

abbrev pub fits : List ℕ → Bool
fits v = list_all (λ (k : ℕ). nat_le k MAX_SEQ) v

pub fits_set : (v : List ℕ) (i x : ℕ) → fits v ≡ true → x ≤ MAX_SEQ → fits (set v i x) ≡ true
fits_set [] i x h b = refl
fits_set (y ∷ v) zero x h b =
    and_from (nat_le x MAX_SEQ) (fits v) (le-leb x MAX_SEQ b) (and_parts (nat_le y MAX_SEQ) (fits v) h).1
fits_set (y ∷ v) (suc i) x h b =
    let p = and_parts (nat_le y MAX_SEQ) (fits v) h in
    and_from (nat_le y MAX_SEQ) (fits (set v i x)) p.0 (fits_set v i x p.1 b)

-- what passes stays past where a number grows
pub past_up : (v : List ℕ) (i x : ℕ) → fits v ≡ false → get_or v i 0 ≤ x → fits (set v i x) ≡ false
past_up [] i x h b = h
past_up (y ∷ v) zero x h b =
    ⊎_elim
    (λ (e : nat_le y MAX_SEQ ≡ false).
    let over : MAX_SEQ < y = leb-false y MAX_SEQ e in
    and_left (nat_le x MAX_SEQ) (fits v) (lt-leb x MAX_SEQ (omega (arith, over, b))))
    (λ (e : fits v ≡ false). and_right (nat_le x MAX_SEQ) (fits v) e)
    (and_cases (nat_le y MAX_SEQ) (fits v) h)
past_up (y ∷ v) (suc i) x h b =
    ⊎_elim (λ (e : nat_le y MAX_SEQ ≡ false). and_left (nat_le y MAX_SEQ) (fits (set v i x)) e)
    (λ (e : fits v ≡ false). and_right (nat_le y MAX_SEQ) (fits (set v i x)) (past_up v i x e b))
    (and_cases (nat_le y MAX_SEQ) (fits v) h)

pub past_over : (v : List ℕ) (i x : ℕ) → i < length v → MAX_SEQ < x → fits (set v i x) ≡ false
past_over [] i x h b = absurd (omega (arith, h))
past_over (y ∷ v) zero x h b = and_left (nat_le x MAX_SEQ) (fits v) (lt-leb x MAX_SEQ b)
past_over (y ∷ v) (suc i) x h b =
    and_right (nat_le y MAX_SEQ) (fits (set v i x)) (past_over v i x (omega (arith, h)) b)

pub vector_from : (v : List ℕ) → fits v ≡ true → in_vector v ≡ Some v
vector_from v h = ap (λ (b : Bool). if b then Some v else None) h

pub no_vector_from : (v : List ℕ) → fits v ≡ false → in_vector v ≡ None
no_vector_from v h = ap (λ (b : Bool). if b then Some v else None) h

pub vector_of : (v w : List ℕ) → in_vector v ≡ Some w → (fits v ≡ true) × (v ≡ w)
vector_of v w h = at (fits v) refl h
  where
    at : (b : Bool) → fits v ≡ b → (if b then Some v else None) ≡ Some w → (fits v ≡ true) × (v ≡ w)
    at true e k = (e, cc)
    at false e k = absurd cc

pub no_vector_of : (v : List ℕ) → in_vector v ≡ None → fits v ≡ false
no_vector_of v h = at (fits v) refl h
  where
    at : (b : Bool) → fits v ≡ b → (if b then Some v else None) ≡ None → fits v ≡ false
    at true e k = absurd cc
    at false e k = e
