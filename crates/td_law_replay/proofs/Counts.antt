-- Counting along the entries of a site.
use Rattle.std.proofs.Common.{◌≡◌, ◌<◌, ◌≤◌, ◌+◌, ◌-◌, ◌++◌, List, [], ◌∷◌, ℕ, zero, suc, Bool, true}
use Rattle.std.proofs.Common.{false, if◌then◌else◌, nat_eq, nat_le, get_or, set, length, Option, Some}
use Rattle.std.proofs.Common.{None, option_and_then, All, refl, ap, ◌∙◌, arith}
use Rattle.std.specs.List.{list_all}
use Rattle.std.proofs.lemmas.Bool.{leb-true, le-leb, false_from_ne_true}
use Rattle.std.proofs.lemmas.Option.{same_Some}
use Rattle.std.proofs.lemmas.List.Elements.{All-weaker}
use Rattle.std.proofs.lemmas.List.Sums.{list_all-from_AllPass}
use Rattle.td_base.specs.Value.{DotValue}
use Rattle.td_base.specs.declared.dot.TheConstants.{MAX_SEQ}
use Rattle.td_clock.specs.Vector.{IsVector, vector_get, vector_set, vector_bump}
use Rattle.td_trace.specs.declared.entry.TraceEntry.{TraceEntry}
use Rattle.td_law_replay.specs.Counting.{Count, count_entry, makes, raised, with_use, used}
use Rattle.td_law_replay.specs.Counting.{no_count, deps_from, in_vector, made_deps}
use Rattle.td_law_replay.specs.Traced.{site_entries}
use Rattle.td_op.specs.declared.reply.Reply.{Reply}
use Rattle.td_op.specs.declared.reply.Reply.TheVariants.{Made, Cancelled}

-- the request was done, by an operation
abbrev pub is_made : Reply → Bool
is_made (Made dot) = true
is_made Cancelled = true
is_made reply = false

abbrev pub count_entries : ℕ → ℕ → Count → List TraceEntry → Count
count_entries site n c [] = c
count_entries site n c (l ∷ rest) = count_entries site n (count_entry site n c l) rest

pub count_snoc : (site n : ℕ) (c : Count) (front : List TraceEntry) (l : TraceEntry)
    → count_entries site n c (front ++ l ∷ []) ≡ count_entry site n (count_entries site n c front) l
count_snoc site n c [] l = refl
count_snoc site n c (f ∷ front) l = count_snoc site n (count_entry site n c f) front l

bump_any : (v : List ℕ) (i j : ℕ) → get_or v j 0 ≤ get_or (set v i (get_or v i 0 + 1)) j 0
bump_any [] i j = omega arith
bump_any (x ∷ v) zero zero = omega arith
bump_any (x ∷ v) zero (suc j) = omega arith
bump_any (x ∷ v) (suc i) zero = omega arith
bump_any (x ∷ v) (suc i) (suc j) = bump_any v i j

pub bump_up : (v : List ℕ) (s t : ℕ) → vector_get v t ≤ vector_get (vector_bump v s) t
bump_up v s t = bump_any v (s - 1) (t - 1)

raised_up : (site k t : ℕ) (v : List ℕ) → vector_get v t ≤ vector_get (raised site k v) t
raised_up site zero t v = omega arith
raised_up site (suc k) t v =
    let one : vector_get v t ≤ vector_get (vector_bump v site) t = bump_up v site t in
    let rest : vector_get (vector_bump v site) t ≤ vector_get (raised site k (vector_bump v site)) t =
    raised_up site k t (vector_bump v site) in omega (arith, one, rest)

pub counted_up : (site n t : ℕ) (c : Count) (l : TraceEntry)
    → vector_get c.have t ≤ vector_get (count_entry site n c l).have t
counted_up site n t c l =
    let one : vector_get c.have t ≤ vector_get (raised site (makes n c l) c.have) t =
    raised_up site (makes n c l) t c.have in
    let two : vector_get (raised site (makes n c l) c.have) t
    ≤ vector_get (with_use site (used l) (raised site (makes n c l) c.have)) t =
    at (used l) (raised site (makes n c l) c.have) in
    omega (arith, one, two)
  where
    foreign : (b : Bool) (d : DotValue) (v : List ℕ)
        → vector_get v t ≤ vector_get (if b then v else vector_bump v d.site) t
    foreign true d v = omega arith
    foreign false d v = bump_up v d.site t

    at : (o : Option DotValue) (v : List ℕ) → vector_get v t ≤ vector_get (with_use site o v) t
    at None v = omega arith
    at (Some d) v = foreign (nat_eq d.site site) d v

pub count_up : (site n t : ℕ) (c : Count) (front : List TraceEntry)
    → vector_get c.have t ≤ vector_get (count_entries site n c front).have t
count_up site n t c [] = omega arith
count_up site n t c (l ∷ front) =
    let one : vector_get c.have t ≤ vector_get (count_entry site n c l).have t = counted_up site n t c l in
    let rest : vector_get (count_entry site n c l).have t ≤ vector_get
    (count_entries site n (count_entry site n c l) front).have t =
    count_up site n t (count_entry site n c l) front in omega (arith, one, rest)

-- what is not counted so far is told by what is left
pub deps_skip : (site n q : ℕ) (c : Count) (front rest : List TraceEntry)
    → vector_get (count_entries site n c front).have site < q
    → deps_from site n q c (front ++ rest) ≡ deps_from site n q (count_entries site n c front) rest
deps_skip site n q c [] rest less = refl
deps_skip site n q c (l ∷ front) rest less =
    let up : vector_get (count_entry site n c l).have site
    ≤ vector_get (count_entries site n (count_entry site n c l) front).have site =
    count_up site n site (count_entry site n c l) front in
    ap
    (λ (b : Bool).
    if b then Some (vector_set c.have site (q - 1)) else deps_from site n q (count_entry site n c l) (front ++ rest))
    (false_from_ne_true (nat_le q (vector_get (count_entry site n c l).have site))
    (λ h.
    let low : q ≤ vector_get (count_entry site n c l).have site =
    leb-true q (vector_get (count_entry site n c l).have site) h in
    absurd (omega (arith, low, up, less))))
    ∙ deps_skip site n q (count_entry site n c l) front rest less

-- what is told is counted
pub deps_counted : (site n q : ℕ) (c : Count) (rest : List TraceEntry) (deps : List ℕ)
    → deps_from site n q c rest ≡ Some deps
    → q ≤ vector_get (count_entries site n c rest).have site
deps_counted site n q c [] deps e = absurd cc
deps_counted site n q c (l ∷ rest) deps e =
    at (nat_le q (vector_get (count_entry site n c l).have site)) refl e
    (λ k. deps_counted site n q (count_entry site n c l) rest deps k)
  where
    at : (b : Bool) → nat_le q (vector_get (count_entry site n c l).have site) ≡ b
        → (if b then Some (vector_set c.have site (q - 1)) else deps_from site n q (count_entry site n c l) rest)
        ≡ Some deps
        → (deps_from site n q (count_entry site n c l) rest ≡ Some deps
        → q ≤ vector_get (count_entries site n (count_entry site n c l) rest).have site)
        → q ≤ vector_get (count_entries site n (count_entry site n c l) rest).have site
    at true f k ih =
        let low : q ≤ vector_get (count_entry site n c l).have site =
        leb-true q (vector_get (count_entry site n c l).have site) f in
        let up : vector_get (count_entry site n c l).have site
        ≤ vector_get (count_entries site n (count_entry site n c l) rest).have site =
        count_up site n site (count_entry site n c l) rest in omega (arith, low, up)
    at false f k ih = ih k

-- ---- numbers in a vector

pub in_vector_is : (v : List ℕ) → All (λ (k : ℕ). k ≤ MAX_SEQ) v → in_vector v ≡ Some v
in_vector_is v small =
    ap (λ (b : Bool). if b then Some v else None)
    (list_all-from_AllPass (λ (k : ℕ). nat_le k MAX_SEQ) v
    (All-weaker (λ (k : ℕ). k ≤ MAX_SEQ) (λ (k : ℕ). nat_le k MAX_SEQ ≡ true) (λ k h. le-leb k MAX_SEQ h) v small))

pub vector_in : (v w : List ℕ) → in_vector v ≡ Some w → v ≡ w
vector_in v w e = at (list_all (λ (k : ℕ). nat_le k MAX_SEQ) v) e
  where
    at : (b : Bool) → (if b then Some v else None) ≡ Some w → v ≡ w
    at true k = same_Some v w k
    at false k = absurd cc

pub made_deps_is : (all : List (List TraceEntry)) (d : DotValue) (deps : List ℕ) → IsVector deps
    → deps_from d.site (length all) d.seq (no_count (length all)) (site_entries all d.site) ≡ Some deps
    → made_deps all d ≡ Some deps
made_deps_is all d deps vector told =
    ap (λ (found : Option (List ℕ)). option_and_then in_vector found) told ∙ in_vector_is deps vector.small

pub deps_made : (all : List (List TraceEntry)) (d : DotValue) (deps : List ℕ) → made_deps all d ≡ Some deps
    → deps_from d.site (length all) d.seq (no_count (length all)) (site_entries all d.site) ≡ Some deps
deps_made all d deps e =
    at (deps_from d.site (length all) d.seq (no_count (length all)) (site_entries all d.site)) e
  where
    at : (found : Option (List ℕ)) → option_and_then in_vector found ≡ Some deps → found ≡ Some deps
    at None k = absurd cc
    at (Some v) k = ap (λ (w : List ℕ). Some w) (vector_in v deps k)
