-- How many operations of each site there are, and which are had.
use Rattle.std.proofs.Common.{◌≡◌, ◌≢◌, ◌⊎◌, ◌<◌, ◌≤◌, ◌+◌, ◌-◌, ◌++◌, ◌∷◌, [], ◌==◌, ℕ, List}
use Rattle.std.proofs.Common.{Bool, true, false, cond, length, filter, get_or, set, nat_le, refl, sym, ap, ◌∙◌}
use Rattle.std.proofs.Common.{subst, inl, inr, ⊎_elim, arith, length-append, replicate, true≢false}
use Rattle.std.specs.List.{sum}
use Rattle.std.proofs.lemmas.Bool.{cases_eq, eq-eqb, le-leb, lt-leb}
use Rattle.std.proofs.lemmas.Bool.Decides.{nat_tests}
use Rattle.std.proofs.lemmas.Grind.{same_number_lists}
use Rattle.std.proofs.lemmas.List.{get_or-set_same, get_or-set_other, get_or-replicate, length-set, length-replicate}
use Rattle.std.proofs.lemmas.List.Folds.{sum_by-replicate}
use Rattle.std.proofs.lemmas.List.Sums.{sum_by-set}
use Rattle.std.proofs.lemmas.List.Elements.{filter-append}
use Rattle.std.proofs.lemmas.List.FromFn.{get_or-map-range_with_len, length-map-range_with_len}
use Rattle.td_base.specs.Equality.{same_dot}
use Rattle.td_base.specs.Lists.{In}
use Rattle.td_base.specs.Value.{DotValue}
use Rattle.td_base.proofs.Equals.{same_dot_true, same_dot_refl}
use Rattle.td_base.proofs.Lists.{In-append}
use Rattle.td_base.proofs.Searches.{any_snoc, any_last}
use Rattle.td_clock.specs.Vector.{vector_bump, vector_get}
use Rattle.td_marks.specs.Mark.{MarkOpValue}
use Rattle.td_marks.specs.Marks.{IsInTurn, count_of, counts, next_dot}
use Rattle.td_marks.specs.Marks.IsInTurn.{none_came, came_next}
use Rattle.td_marks.specs.Taking.{is_had}

-- ---- one more operation

abbrev of_site : ℕ → MarkOpValue → Bool
of_site site o = o.dot.site == site

count_append : (site : ℕ) (ops : List MarkOpValue) (o : MarkOpValue) (b : Bool) → of_site site o ≡ b
    → count_of site (ops ++ o ∷ []) ≡ count_of site ops + cond b 1 0
count_append site ops o b e =
    ap length (filter-append (of_site site) ops (o ∷ []))
    ∙ length-append (filter (of_site site) ops) (filter (of_site site) (o ∷ []))
    ∙ ap (λ (n : ℕ). count_of site ops + n) (one b e)
  where
    one : (b : Bool) → of_site site o ≡ b → length (filter (of_site site) (o ∷ [])) ≡ cond b 1 0
    one true e = ap (λ (c : Bool). length (cond c (o ∷ []) [])) e
    one false e = ap (λ (c : Bool). length (cond c (o ∷ []) [])) e

pub count_more : (site : ℕ) (ops : List MarkOpValue) (o : MarkOpValue) → o.dot.site ≡ site
    → count_of site (ops ++ o ∷ []) ≡ count_of site ops + 1
count_more site ops o e = count_append site ops o true (eq-eqb o.dot.site site e)

pub count_same : (site : ℕ) (ops : List MarkOpValue) (o : MarkOpValue) → o.dot.site ≢ site
    → count_of site (ops ++ o ∷ []) ≡ count_of site ops
count_same site ops o e =
    let other : of_site site o ≡ false = grind (arith, nat_tests) in
    let n : count_of site (ops ++ o ∷ []) ≡ count_of site ops + 0 = count_append site ops o false other in
    omega (arith, n)

-- ---- the vector

pub length_counts : (n : ℕ) (ops : List MarkOpValue) → length (counts n ops) ≡ n
length_counts n ops = length-map-range_with_len (λ (site : ℕ). count_of site ops) 1 n

counts_at : (n k : ℕ) (ops : List MarkOpValue) → k < n → get_or (counts n ops) k 0 ≡ count_of (1 + k) ops
counts_at n k ops h = get_or-map-range_with_len (λ (site : ℕ). count_of site ops) 1 n k (1 + k) 0 h refl

pub get_counts : (n site : ℕ) (ops : List MarkOpValue) → 1 ≤ site → site ≤ n
    → vector_get (counts n ops) site ≡ count_of site ops
get_counts n site ops h k =
    let same : 1 + (site - 1) ≡ site = omega arith in
    counts_at n (site - 1) ops (omega arith) ∙ ap (λ (s : ℕ). count_of s ops) same

-- the place of a site is raised, and no other
raised_at : (n k : ℕ) (ops : List MarkOpValue) (o : MarkOpValue) → k < n → 1 ≤ o.dot.site → o.dot.site ≤ n
    → (o.dot.site ≡ 1 + k) ⊎ (o.dot.site ≡ 1 + k → ⊥)
    → get_or (counts n (ops ++ o ∷ [])) k 0 ≡ get_or (vector_bump (counts n ops) o.dot.site) k 0
raised_at n k ops o h some few (inl e) =
    let p : o.dot.site - 1 ≡ k = omega (arith, e) in
    let long : k < length (counts n ops) = subst (λ (m : ℕ). k < m) (sym (length_counts n ops)) h in
    counts_at n k (ops ++ o ∷ []) h ∙ count_more (1 + k) ops o e
    ∙ sym (ap (λ (m : ℕ). m + 1) (counts_at n k ops h))
    ∙ sym (get_or-set_same (counts n ops) k (get_or (counts n ops) k 0 + 1) 0 long)
    ∙ ap (λ (q : ℕ). get_or (set (counts n ops) q (get_or (counts n ops) q 0 + 1)) k 0) (sym p)
raised_at n k ops o h some few (inr e) =
    let other : k ≢ o.dot.site - 1 = λ (q : k ≡ o.dot.site - 1). e (omega (arith, q, some)) in
    counts_at n k (ops ++ o ∷ []) h ∙ count_same (1 + k) ops o e ∙ sym (counts_at n k ops h)
    ∙ sym (get_or-set_other (counts n ops) (o.dot.site - 1) k (vector_get (counts n ops) o.dot.site + 1) 0 other)

pub counts_more : (n : ℕ) (ops : List MarkOpValue) (o : MarkOpValue) → 1 ≤ o.dot.site → o.dot.site ≤ n
    → counts n (ops ++ o ∷ []) ≡ vector_bump (counts n ops) o.dot.site
counts_more n ops o some few =
    same_number_lists (counts n (ops ++ o ∷ [])) (vector_bump (counts n ops) o.dot.site)
    (length_counts n (ops ++ o ∷ []) ∙ sym (length_counts n ops)
    ∙ sym (length-set (counts n ops) (o.dot.site - 1) (vector_get (counts n ops) o.dot.site + 1)))
    (λ k h. raised_at n k ops o (subst (λ (m : ℕ). k < m) (length_counts n (ops ++ o ∷ [])) h) some few
    (cases_eq o.dot.site (1 + k)))

-- no operation
pub counts_none : (n : ℕ) → counts n [] ≡ replicate n 0
counts_none n =
    same_number_lists (counts n []) (replicate n 0)
    (length_counts n [] ∙ sym (length-replicate n 0))
    (λ k h.
    let k-n : k < n = subst (λ (m : ℕ). k < m) (length_counts n []) h in
    counts_at n k [] k-n ∙ sym (get_or-replicate n k 0 0 k-n))

-- how many there are in all
pub sum_more : (v : List ℕ) (site : ℕ) → 1 ≤ site → site ≤ length v → sum (vector_bump v site) ≡ sum v + 1
sum_more v site some few =
    let changed = sum_by-set (λ (n : ℕ). n) v (site - 1) (vector_get v site + 1) 0 (omega arith) in
    omega (arith, changed)

pub sum_none : (n : ℕ) → sum (replicate n 0) ≡ 0
sum_none n = sum_by-replicate (λ (m : ℕ). m) n 0 ∙ omega arith

-- ---- what is had

had_next : (d : DotValue) (ops : List MarkOpValue) (o : MarkOpValue) (b : Bool) → same_dot o.dot d ≡ b
    → o.dot ≡ next_dot o.dot.site ops → is_had d ops ≡ nat_le d.seq (count_of d.site ops)
    → (o.dot.site ≡ d.site) ⊎ (o.dot.site ≡ d.site → ⊥)
    → is_had d (ops ++ o ∷ []) ≡ nat_le d.seq (count_of d.site (ops ++ o ∷ []))
had_next d ops o true e next ih same =
    let one : o.dot ≡ d = same_dot_true o.dot d e in
    let site : o.dot.site ≡ d.site = ap (λ (x : DotValue). x.site) one in
    let last : d.seq ≡ count_of o.dot.site ops + 1 = sym (ap (λ (x : DotValue). x.seq) one)
    ∙ ap (λ (x : DotValue). x.seq) next in
    let count = count_more d.site ops o site in
    let here = ap (λ (s : ℕ). count_of s ops) site in
    any_last (λ (o : MarkOpValue). same_dot o.dot d) ops o e
    ∙ sym (le-leb d.seq (count_of d.site (ops ++ o ∷ [])) (omega (arith, last, count, here)))
had_next d ops o false e next ih (inr other) =
    any_snoc (λ (o : MarkOpValue). same_dot o.dot d) ops o e ∙ ih
    ∙ ap (λ (n : ℕ). nat_le d.seq n) (sym (count_same d.site ops o other))
had_next d ops o false e next ih (inl same) =
    let last : o.dot.seq ≡ count_of o.dot.site ops + 1 = ap (λ (x : DotValue). x.seq) next in
    let here = ap (λ (s : ℕ). count_of s ops) same in
    let differ : d.seq ≢ count_of d.site ops + 1 = λ (q : d.seq ≡ count_of d.site ops + 1).
    let seq : o.dot.seq ≡ d.seq = omega (arith, last, here, q) in
    true≢false (sym (same_dot_refl o.dot) ∙ ap (same_dot o.dot) (λ i. record { site = same i; seq = seq i }) ∙ e) in
    any_snoc (λ (o : MarkOpValue). same_dot o.dot d) ops o e ∙ ih
    ∙ not_next d.seq (count_of d.site ops) differ
    ∙ ap (λ (n : ℕ). nat_le d.seq n) (sym (count_more d.site ops o same))
  where
    not_next : (s n : ℕ) → s ≢ n + 1 → nat_le s n ≡ nat_le s (n + 1)
    not_next s n h = grind (arith, nat_tests)

-- an operation in the range of dots is had where the count of its site has come to it
pub had_counted : (d : DotValue) (ops : List MarkOpValue) → IsInTurn ops → 1 ≤ d.seq
    → is_had d ops ≡ nat_le d.seq (count_of d.site ops)
had_counted d [] none_came some = sym (lt-leb d.seq 0 some)
had_counted d _ (came_next ops o turn next) some =
    had_next d ops o (same_dot o.dot d) refl next (had_counted d ops turn some) (cases_eq o.dot.site d.site)

-- each has a number from 1
pub numbered : (ops : List MarkOpValue) → IsInTurn ops → (o : MarkOpValue) → In o ops → 1 ≤ o.dot.seq
numbered [] none_came o i = absurd i
numbered _ (came_next ops last turn next) o i =
    ⊎_elim
    (λ (k : In o ops). numbered ops turn o k)
    (λ (k : In o (last ∷ [])). ⊎_elim
    (λ (e : o ≡ last).
    let seq : last.dot.seq ≡ count_of last.dot.site ops + 1 = ap (λ (x : DotValue). x.seq) next in
    subst (λ (x : MarkOpValue). 1 ≤ x.dot.seq) (sym e) (omega (arith, seq)))
    (λ (none : ⊥). absurd none) k)
    (In-append o ops (last ∷ []) i)
