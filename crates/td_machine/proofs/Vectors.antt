-- A number of a vector raised by one.
use Rattle.std.proofs.Common.{◌≡◌, ◌≢◌, ◌<◌, ◌≤◌, ◌+◌, ◌-◌, ℕ, List, Bool, true, false, nat_eq}
use Rattle.std.proofs.Common.{length, get_or, set, refl, sym, subst, arith}
use Rattle.std.proofs.lemmas.Bool.{eqb-true, eqb-false, leb-true, le-leb}
use Rattle.std.proofs.lemmas.List.{get_or-set_same, get_or-set_other, length-set}
use Rattle.std.specs.Prelude.{IsTrue}
use Rattle.td_clock.specs.Vector.{vector_get, vector_bump, vector_covers}
use Rattle.td_clock.proofs.VectorLemmas.{covers_from_dots}

pub bump_same : (v : List ℕ) (s : ℕ) → 0 < s → s ≤ length v → vector_get (vector_bump v s) s ≡ vector_get v s + 1
bump_same v s some within = get_or-set_same v (s - 1) (vector_get v s + 1) 0 (omega (arith, some, within))

pub bump_other : (v : List ℕ) (s t : ℕ) → 0 < s → 0 < t → s ≢ t → vector_get (vector_bump v s) t ≡ vector_get v t
bump_other v s t some other apart =
    get_or-set_other v (s - 1) (t - 1) (vector_get v s + 1) 0
    (λ (e : t - 1 ≡ s - 1). apart (omega (arith, some, other, e)))

bump_grows : (v : List ℕ) (i a j : ℕ) → i < length v → get_or v i 0 ≤ a → get_or v j 0 ≤ get_or (set v i a) j 0
bump_grows v i a j within more = at (nat_eq j i) refl
  where
    at : (b : Bool) → nat_eq j i ≡ b → get_or v j 0 ≤ get_or (set v i a) j 0
    at true e =
        let same : j ≡ i = eqb-true j i e in
        let now : get_or (set v i a) i 0 ≡ a = get_or-set_same v i a 0 within in
        subst (λ (k : ℕ). get_or v k 0 ≤ get_or (set v i a) k 0) (sym same) (omega (arith, now, more))
    at false e =
        let now : get_or (set v i a) j 0 ≡ get_or v j 0 =
        get_or-set_other v i j a 0 (eqb-false j i e) in omega (arith, now)

pub bump_covers : (v : List ℕ) (s : ℕ) → 0 < s → s ≤ length v → IsTrue (vector_covers (vector_bump v s) v)
bump_covers v s some within =
    let long : length (vector_bump v s) ≡ length v = length-set v (s - 1) (vector_get v s + 1) in
    covers_from_dots (vector_bump v s) v (omega (arith, long))
    (λ d h.
    let had : d.seq ≤ vector_get v d.site = leb-true d.seq (vector_get v d.site) h in
    let more : vector_get v d.site ≤ vector_get (vector_bump v s) d.site =
    bump_grows v (s - 1) (vector_get v s + 1) (d.site - 1) (omega (arith, some, within)) (omega arith) in
    le-leb d.seq (vector_get (vector_bump v s) d.site) (omega (arith, had, more)))
