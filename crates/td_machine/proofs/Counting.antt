-- What a causal log tells: how many operations of a site it has, which numbers they have, and that their past is in
-- it.
use Rattle.std.proofs.Common.{◌≡◌, ◌≢◌, ◌<◌, ◌≤◌, ◌+◌, ◌-◌, ℕ, suc, List, [], ◌∷◌, ◌++◌, Bool, true, false}
use Rattle.std.proofs.Common.{if◌then◌else◌, nat_eq, nat_le, length, refl, ap, ◌∙◌, subst, inl, inr, arith}
use Rattle.std.proofs.lemmas.Bool.{eqb-true, eqb-false, leb-true, leb-false}
use Rattle.std.proofs.lemmas.List.{get_or-replicate}
use Rattle.std.proofs.Math.ListN.{get_or-eq_default}
use Rattle.std.specs.Prelude.{IsTrue}
use Rattle.td_base.specs.Value.{DotValue}
use Rattle.td_base.specs.Lists.{In}
use Rattle.td_clock.specs.Vector.{vector_get, vector_has, vector_bump}
use Rattle.td_clock.proofs.VectorLemmas.{covered_dots}
use Rattle.td_op.specs.Op.{OpValue}
use Rattle.td_machine.specs.Counts.{counts, ops_of, IsNext, IsInTurn}
use Rattle.td_machine.proofs.Vectors.{bump_same, bump_other}
use Rattle.td_machine.proofs.Turns.{length_counts}

-- the vector of a log counts the operations of each site
pub total : (n s : ℕ) (log : List OpValue) → 0 < s → s ≤ n → IsInTurn n log
    → vector_get (counts n log) s ≡ length (ops_of s log)
total n s [] some within c = get_or-replicate n (s - 1) 0 0 (omega (arith, some, within))
total n s (x ∷ log) some within c = at (nat_eq x.dot.site s) refl (total n s log some within c.1)
  where
    at : (b : Bool) → nat_eq x.dot.site s ≡ b → vector_get (counts n log) s ≡ length (ops_of s log)
        → vector_get (vector_bump (counts n log) x.dot.site) s ≡ length (if b then x ∷ ops_of s log else ops_of s log)
    at true e ih =
        let same : x.dot.site ≡ s = eqb-true x.dot.site s e in
        let here : vector_get (vector_bump (counts n log) x.dot.site) s ≡ vector_get (counts n log) s + 1 =
        subst
        (λ (t : ℕ). vector_get (vector_bump (counts n log) x.dot.site) t ≡ vector_get (counts n log) t + 1) same
        (bump_same (counts n log) x.dot.site c.0.some c.0.within) in
        omega (arith, here, ih)
    at false e ih =
        bump_other (counts n log) x.dot.site s c.0.some some (λ (k : x.dot.site ≡ s). eqb-false x.dot.site s e k) ∙ ih

-- what is older than an operation
pub older_in_turn : (n : ℕ) (front : List OpValue) (x : OpValue) (older : List OpValue)
    → IsInTurn n (front ++ x ∷ older) → IsNext (counts n older) x × IsInTurn n older
older_in_turn n [] x older c = c
older_in_turn n (y ∷ front) x older c = older_in_turn n front x older c.1

-- the operations of a site are numbered in their order
pub numbered : (n : ℕ) (x : OpValue) (older : List OpValue) → IsNext (counts n older) x → IsInTurn n older
    → x.dot.seq ≡ length (ops_of x.dot.site older) + 1
numbered n x older next c =
    let within : x.dot.site ≤ n = subst (λ (k : ℕ). x.dot.site ≤ k) (length_counts n older) next.within in
    next.next ∙ ap (λ (k : ℕ). k + 1) (total n x.dot.site older next.some within c)

pub record Found (d : DotValue) (log : List OpValue) : Type 0 where
  pub op : OpValue
  pub inside : In op log
  pub is : op.dot ≡ d

newer : (d : DotValue) (x : OpValue) (log : List OpValue) → Found d log → Found d (x ∷ log)
newer d x log f = record { op = f.op; inside = inr f.inside; is = f.is }

pub found : (n s k : ℕ) (log : List OpValue) → 0 < k → IsInTurn n log → k ≤ length (ops_of s log)
    → Found (record { site = s; seq = k }) log
found n s k [] some c few = absurd (omega (arith, some, few))
found n s k (x ∷ log) some c few = at (nat_eq x.dot.site s) refl few (λ less. found n s k log some c.1 less)
  where
    at : (b : Bool) → nat_eq x.dot.site s ≡ b → k ≤ length (if b then x ∷ ops_of s log else ops_of s log)
        → (k ≤ length (ops_of s log) → Found (record { site = s; seq = k }) log)
        → Found (record { site = s; seq = k }) (x ∷ log)
    at false e less ih = newer _ x log (ih less)
    at true e less ih = cases (nat_eq k (suc (length (ops_of s log)))) refl
      where
        cases : (b : Bool) → nat_eq k (suc (length (ops_of s log))) ≡ b → Found (record { site = s; seq = k }) (x ∷ log)
        cases true h =
            let same : x.dot.site ≡ s = eqb-true x.dot.site s e in
            let last : k ≡ suc (length (ops_of s log)) = eqb-true k (suc (length (ops_of s log))) h in
            let number : x.dot.seq ≡ length (ops_of s log) + 1 =
            numbered n x log c.0 c.1 ∙ ap (λ (t : ℕ). length (ops_of t log) + 1) same in
            let seq : x.dot.seq ≡ k = omega (arith, number, last) in
            record { op = x; inside = inl refl; is = λ i. record { site = same i; seq = seq i } }
        cases false h =
            let other : k ≢ suc (length (ops_of s log)) = eqb-false k (suc (length (ops_of s log))) h in
            newer _ x log (ih (omega (arith, less, other)))

-- the past of an operation is older
pub past_found : (n : ℕ) (x : OpValue) (older : List OpValue) → IsNext (counts n older) x → IsInTurn n older
    → (d : DotValue) → 0 < d.site → 0 < d.seq
    → IsTrue (vector_has x.deps d) → Found d older
past_found n x older next c d site seq has = cases (nat_le d.site n) refl
  where
    known : d.seq ≤ vector_get (counts n older) d.site
    known = leb-true d.seq (vector_get (counts n older) d.site) (covered_dots (counts n older) x.deps next.past d has)

    cases : (b : Bool) → nat_le d.site n ≡ b → Found d older
    cases true h =
        found n d.site d.seq older seq c
        (subst (λ (t : ℕ). d.seq ≤ t) (total n d.site older site (leb-true d.site n h) c) known)
    cases false h =
        let past_end : length (counts n older) ≤ d.site - 1 =
        past (length (counts n older)) d.site n (length_counts n older) (leb-false d.site n h) in
        let none : vector_get (counts n older) d.site ≡ 0 = get_or-eq_default (counts n older) 0 past_end in
        absurd (omega (arith, known, none, seq))
      where
        past : (a s k : ℕ) → a ≡ k → k < s → a ≤ s - 1
        past a s k e h = omega arith
