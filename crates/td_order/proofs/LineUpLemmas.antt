-- The line-up: it falls, has the operations that it was made of, and is the only list that does.
use Rattle.std.specs.Prelude.{◌↔◌}
use Rattle.std.proofs.Common.{◌≡◌, ◌⊎◌, ◌<◌, ◌+◌, ℕ, suc, List, [], ◌∷◌, Bool, true, false, cond, sum, length, get_or}
use Rattle.std.proofs.Common.{refl, sym, ap, ◌∙◌, subst, inl, inr, ⊎_elim, true≢false, arith, ◌≢◌}
use Rattle.std.specs.declared.cmp.Ordering.{Ordering}
use Rattle.std.specs.declared.cmp.Ordering.TheVariants.{Less, Equal, Greater}
use Rattle.std.specs.Ordering.{is_lt, nat_cmp, ordering_then}
use Rattle.std.specs.List.{AllByRecursion, IsDistinct}
use Rattle.std.specs.List.Sorted.{IsPermutation, IsSortedBy}
use Rattle.std.proofs.lemmas.List.Sorted.{IsPermutation-sym}
use Rattle.std.proofs.lemmas.Map.Keys.{IsDistinct-IsPermutation}
use Rattle.std.proofs.lemmas.Bool.{cases_Bool}
use Rattle.td_base.specs.Order.{dot_cmp}
use Rattle.td_base.specs.Lists.{In, Successive}
use Rattle.td_base.proofs.Lists.{all_in, all_of, In-permutation}
use Rattle.td_op.specs.Op.{OpValue}
use Rattle.td_order.specs.LineUp.{comes_before, lined_up_with, line_up, DotsDiffer}
use Rattle.td_order.proofs.Lex.{Tri, below, same, above, Lex, lex_irrefl, lex_trans, lex_tri, Below, nat_strict}
use Rattle.td_base.proofs.Rising.{one_rising}
use Rattle.td_base.specs.Equality.{same_dot}
use Rattle.td_base.proofs.Equals.{same_dot_true, same_dot_refl}
use Rattle.td_base.proofs.Orders.{Compares, compares, dot_lt_true, dot_lt_from}
use Rattle.td_base.proofs.Elements.{both_tests}

-- an operation's place in line-up
abbrev place_of : OpValue → List ℕ
place_of o = sum o.deps ∷ o.dot.site ∷ o.dot.seq ∷ []

before_from_at : (x y : OpValue) (o : Ordering) → Compares (sum x.deps) (sum y.deps) o
    → is_lt (ordering_then o (dot_cmp x.dot y.dot)) ≡ true → Lex Below (place_of x) (place_of y)
before_from_at x y Less a h = inl a
before_from_at x y Equal a h = inr (
  a,
  ⊎_elim (λ c. inl c)
      (λ (c : (x.dot.site ≡ y.dot.site) × (x.dot.seq < y.dot.seq)). inr (c.0, inl c.1)) (dot_lt_true x.dot y.dot h),
)
before_from_at x y Greater a h = absurd (true≢false (sym h))

before_from : (x y : OpValue) → comes_before x y ≡ true → Lex Below (place_of x) (place_of y)
before_from x y h = before_from_at x y (nat_cmp (sum x.deps) (sum y.deps)) (compares (sum x.deps) (sum y.deps)) h

before_to_at : (x y : OpValue) (o : Ordering) → Compares (sum x.deps) (sum y.deps) o
    → Lex Below (place_of x) (place_of y) → is_lt (ordering_then o (dot_cmp x.dot y.dot)) ≡ true
before_to_at x y Less a h = refl
before_to_at x y Equal a h =
    dot_lt_from x.dot y.dot
    (⊎_elim (λ (b : sum x.deps < sum y.deps). absurd (omega arith))
    (λ (b : (sum x.deps ≡ sum y.deps) × Lex Below (x.dot.site ∷ x.dot.seq ∷ []) (y.dot.site ∷ y.dot.seq ∷ [])).
    ⊎_elim (λ c. inl c)
    (λ (c : (x.dot.site ≡ y.dot.site) × Lex Below (x.dot.seq ∷ []) (y.dot.seq ∷ [])). inr
    (c.0, ⊎_elim (λ d. d) (λ (d : (x.dot.seq ≡ y.dot.seq) × Lex Below [] []). absurd d.1) c.1)) b.1)
    h)
before_to_at x y Greater a h =
    absurd (⊎_elim (λ (b : sum x.deps < sum y.deps). omega arith)
    (λ (b : (sum x.deps ≡ sum y.deps) × Lex Below (x.dot.site ∷ x.dot.seq ∷ []) (y.dot.site ∷ y.dot.seq ∷ [])).
    omega (arith, b.0)) h)

before_to : (x y : OpValue) → Lex Below (place_of x) (place_of y) → comes_before x y ≡ true
before_to x y h = before_to_at x y (nat_cmp (sum x.deps) (sum y.deps)) (compares (sum x.deps) (sum y.deps)) h

-- the one with the smaller sum comes before
pub smaller_sum : (x y : OpValue) → sum x.deps < sum y.deps → comes_before x y ≡ true
smaller_sum x y h = before_to x y (inl h)

-- o does not come before p
abbrev pub NotBefore : OpValue → OpValue → Type 0
NotBefore o p = comes_before o p ≡ false

pub not_before : (x y : OpValue) → (Lex Below (place_of x) (place_of y) → ⊥) → NotBefore x y
not_before x y n = ⊎_elim (λ e. absurd (n (before_from x y e))) (λ e. e) (cases_Bool (comes_before x y))

pub no_before : (x y : OpValue) → NotBefore x y → Lex Below (place_of x) (place_of y) → ⊥
no_before x y e h = true≢false (sym (before_to x y h) ∙ e)

-- p before o, and p not before q, so o not before q
not_before_trans : (o p q : OpValue) → comes_before p o ≡ true → NotBefore p q → NotBefore o q
not_before_trans o p q h k = not_before o q (λ l. no_before p q k
    (lex_trans Below nat_strict (place_of p) (place_of o) (place_of q) (before_from p o h) l))

not_before_back : (o p : OpValue) → comes_before p o ≡ true → NotBefore o p
not_before_back o p h = not_before o p (λ l. lex_irrefl Below nat_strict (place_of p)
    (lex_trans Below nat_strict (place_of p) (place_of o) (place_of p) (before_from p o h) l))

In-lined_at : (o q p : OpValue) (ps : List OpValue) (b : Bool) → (In q (lined_up_with o ps) → (q ≡ o) ⊎ In q ps)
    → In q (cond b (o ∷ p ∷ ps) (p ∷ lined_up_with o ps)) → (q ≡ o) ⊎ In q (p ∷ ps)
In-lined_at o q p ps true rest h = h
In-lined_at o q p ps false rest h = ⊎_elim (λ e. inr (inl e)) (λ k. ⊎_elim (λ e. inl e) (λ i. inr (inr i)) (rest k)) h

pub In-lined : (o q : OpValue) (ps : List OpValue) → In q (lined_up_with o ps) → (q ≡ o) ⊎ In q ps
In-lined o q [] h = h
In-lined o q (p ∷ ps) h = In-lined_at o q p ps (comes_before p o) (λ k. In-lined o q ps k) h

lined-In_at : (o q p : OpValue) (ps : List OpValue) (b : Bool) → ((q ≡ o) ⊎ In q ps → In q (lined_up_with o ps))
    → (q ≡ o) ⊎ In q (p ∷ ps) → In q (cond b (o ∷ p ∷ ps) (p ∷ lined_up_with o ps))
lined-In_at o q p ps true rest h = h
lined-In_at o q p ps false rest h = ⊎_elim (λ e. inr (rest (inl e)))
    (λ k. ⊎_elim (λ e. inl e) (λ i. inr (rest (inr i))) k) h

lined-In : (o q : OpValue) (ps : List OpValue) → (q ≡ o) ⊎ In q ps → In q (lined_up_with o ps)
lined-In o q [] h = h
lined-In o q (p ∷ ps) h = lined-In_at o q p ps (comes_before p o) (λ k. lined-In o q ps k) h

falls_with_at : (o p : OpValue) (ps : List OpValue) (b : Bool) → comes_before p o ≡ b → Successive NotBefore (p ∷ ps)
    → Successive NotBefore (lined_up_with o ps) → Successive NotBefore (cond b (o ∷ p ∷ ps) (p ∷ lined_up_with o ps))
falls_with_at o p ps true e r rest = (
  all_of (NotBefore o) (p ∷ ps) (λ q i. ⊎_elim (λ (k : q ≡ p). subst (λ x. NotBefore o x) (sym k)
      (not_before_back o p e)) (λ k. not_before_trans o p q e (all_in (NotBefore p) ps r.0 q k)) i),
  r,
)
falls_with_at o p ps false e r rest = (
  all_of (NotBefore p) (lined_up_with o ps) (λ q i. ⊎_elim (λ (k : q ≡ o). subst (λ x. NotBefore p x) (sym k) e)
      (λ k. all_in (NotBefore p) ps r.0 q k) (In-lined o q ps i)),
  rest,
)

falls_with : (o : OpValue) (ps : List OpValue) → Successive NotBefore ps → Successive NotBefore (lined_up_with o ps)
falls_with o [] r = (tt, tt)
falls_with o (p ∷ ps) r = falls_with_at o p ps (comes_before p o) refl r (falls_with o ps r.1)

pub falls : (ops : List OpValue) → Successive NotBefore (line_up ops)
falls [] = tt
falls (o ∷ os) = falls_with o (line_up os) (falls os)

pub In-line_up : (ops : List OpValue) (q : OpValue) → In q (line_up ops) → In q ops
In-line_up [] q h = h
In-line_up (o ∷ os) q h = ⊎_elim (λ e. inl e) (λ k. inr (In-line_up os q k)) (In-lined o q (line_up os) h)

pub line_up-In : (ops : List OpValue) (q : OpValue) → In q ops → In q (line_up ops)
line_up-In [] q h = h
line_up-In (o ∷ os) q h = lined-In o q (line_up os) (⊎_elim (λ e. inl e) (λ k. inr (line_up-In os q k)) h)

abbrev pub OtherDot : OpValue → OpValue → Type 0
OtherDot x y = x.dot ≢ y.dot

apart_with_at : (o p : OpValue) (ps : List OpValue) (b : Bool) → ((q : OpValue) → In q (p ∷ ps) → o.dot ≡ q.dot → ⊥)
    → DotsDiffer (p ∷ ps) → DotsDiffer (lined_up_with o ps) → DotsDiffer (cond b (o ∷ p ∷ ps) (p ∷ lined_up_with o ps))
apart_with_at o p ps true n r rest = (all_of (OtherDot o) (p ∷ ps) n, r)
apart_with_at o p ps false n r rest = (
  all_of (OtherDot p) (lined_up_with o ps)
      (λ q i. ⊎_elim (λ (k : q ≡ o). λ e. n p (inl refl) (sym (e ∙ ap (λ (x : OpValue). x.dot) k)))
      (λ k. all_in (OtherDot p) ps r.0 q k) (In-lined o q ps i)),
  rest,
)

apart_with : (o : OpValue) (ps : List OpValue) → ((q : OpValue) → In q ps → o.dot ≡ q.dot → ⊥) → DotsDiffer ps
    → DotsDiffer (lined_up_with o ps)
apart_with o [] n r = (tt, tt)
apart_with o (p ∷ ps) n r = apart_with_at o p ps (comes_before p o) n r (apart_with o ps (λ q i. n q (inr i)) r.1)

pub apart_line_up : (ops : List OpValue) → DotsDiffer ops → DotsDiffer (line_up ops)
apart_line_up [] r = tt
apart_line_up (o ∷ os) r = apart_with o (line_up os) (λ q i. all_in (OtherDot o) os r.0 q (In-line_up os q i))
    (apart_line_up os r.1)

-- the one comes after the other
abbrev pub After : OpValue → OpValue → Type 0
After o p = comes_before p o ≡ true

pub after_irrefl : (o : OpValue) → After o o → ⊥
after_irrefl o h = lex_irrefl Below nat_strict (place_of o) (before_from o o h)

pub after_trans : (o p q : OpValue) → After o p → After p q → After o q
after_trans o p q h k = before_to q o (lex_trans Below nat_strict (place_of q) (place_of p) (place_of o)
    (before_from q p k) (before_from p o h))

one_dot : (o p : OpValue) → place_of o ≡ place_of p → o.dot ≡ p.dot
one_dot o p e = let a : o.dot.site ≡ p.dot.site = cc in let b : o.dot.seq ≡ p.dot.seq = cc in
    λ i. record { site = a i; seq = b i }

after_at : (o p : OpValue) → NotBefore o p → (o.dot ≡ p.dot → ⊥) → Tri (Lex Below) (place_of o) (place_of p) → After o p
after_at o p n d (below h) = absurd (no_before o p n h)
after_at o p n d (same e) = absurd (d (one_dot o p e))
after_at o p n d (above h) = before_to p o h

after : (o p : OpValue) → NotBefore o p → (o.dot ≡ p.dot → ⊥) → After o p
after o p n d = after_at o p n d (lex_tri Below nat_strict (place_of o) (place_of p))

falling : (ops : List OpValue) → Successive NotBefore ops → DotsDiffer ops → Successive After ops
falling [] r d = tt
falling (o ∷ ops) r d = (
  all_of (After o) ops (λ p i. after o p (all_in (NotBefore o) ops r.0 p i)
      (all_in (OtherDot o) ops d.0 p i)),
  falling ops r.1 d.1,
)

pub line_up_falls : (ops : List OpValue) → DotsDiffer ops → Successive After (line_up ops)
line_up_falls ops d = falling (line_up ops) (falls ops) (apart_line_up ops d)

-- two falling lists of the same operations are one
pub one_list : (xs ys : List OpValue) → Successive After xs → Successive After ys
    → ((x : OpValue) → In x xs → In x ys) → ((x : OpValue) → In x ys → In x xs) → xs ≡ ys
one_list xs ys r q h k = one_rising After after_irrefl after_trans xs ys r q h k

-- lists without a dot twice that have the same operations have one line-up
pub one_line_up : (xs ys : List OpValue) → DotsDiffer xs → DotsDiffer ys → ((x : OpValue) → In x xs → In x ys)
    → ((x : OpValue) → In x ys → In x xs) → line_up xs ≡ line_up ys
one_line_up xs ys d e h k =
    one_list (line_up xs) (line_up ys) (line_up_falls xs d) (line_up_falls ys e)
    (λ x i. line_up-In ys x (h x (In-line_up xs x i)))
    (λ x i. line_up-In xs x (k x (In-line_up ys x i)))

-- a sorted permutation of the operations is their line-up
not_before_chain : (o p q : OpValue) → NotBefore o p → NotBefore p q → NotBefore o q
not_before_chain o p q h k = not_before o q (λ l. chain_at l (lex_tri Below nat_strict (place_of p) (place_of o)))
  where
    chain_at : Lex Below (place_of o) (place_of q) → Tri (Lex Below) (place_of p) (place_of o) → ⊥
    chain_at l (below m) = no_before p q k (lex_trans Below nat_strict (place_of p) (place_of o) (place_of q) m l)
    chain_at l (same m) = no_before p q k (subst (λ (w : List ℕ). Lex Below w (place_of q)) (sym m) l)
    chain_at l (above m) = no_before o p h m

falls_head : (x : OpValue) (xs : List OpValue) → ((d : OpValue) → 0 < length xs → NotBefore x (get_or xs 0 d))
    → Successive NotBefore xs → (q : OpValue) → In q xs → NotBefore x q
falls_head x [] h r q i = absurd i
falls_head x (y ∷ ys) h r q i =
    let first : NotBefore x y = h x (omega arith) in
    ⊎_elim (λ (e : q ≡ y). subst (λ w. NotBefore x w) (sym e) first)
    (λ k. not_before_chain x y q first (all_in (NotBefore y) ys r.0 q k)) i

falls_from : (xs : List OpValue) → ((k : ℕ) (d : OpValue) → suc k < length xs
    → NotBefore (get_or xs k d) (get_or xs (suc k) d)) → Successive NotBefore xs
falls_from [] h = tt
falls_from (x ∷ xs) h =
    let rest = falls_from xs (λ k d l. h (suc k) d (omega arith)) in
    (all_of (NotBefore x) xs (falls_head x xs (λ d l. h 0 d (omega arith)) rest), rest)

pub sorted_falls : (xs : List OpValue) → IsSortedBy (λ x y. comes_before y x) xs → Successive NotBefore xs
sorted_falls xs up =
    falls_from xs (λ k d l.
    let e : k + 1 ≡ suc k = omega arith in
    subst (λ m. NotBefore (get_or xs k d) (get_or xs m d)) e (up k d (omega arith) (omega arith)))

-- dots that differ still do in another order
abbrev one_dot_test : OpValue → OpValue → Bool
one_dot_test x y = same_dot x.dot y.dot

flips : (x y : OpValue) → one_dot_test x y ≡ one_dot_test y x
flips x y =
    both_tests (one_dot_test x y) (one_dot_test y x)
    (λ t. subst (λ d. same_dot d x.dot ≡ true) (same_dot_true x.dot y.dot t) (same_dot_refl x.dot))
    (λ t. subst (λ d. same_dot d y.dot ≡ true) (same_dot_true y.dot x.dot t) (same_dot_refl y.dot))

all_false : (x : OpValue) (ops : List OpValue) → ((y : OpValue) → In y ops → x.dot ≡ y.dot → ⊥)
    → AllByRecursion (λ y. one_dot_test x y ≡ false) ops
all_false x [] h = tt
all_false x (y ∷ ops) h = (
  ⊎_elim (λ t. absurd (h y (inl refl) (same_dot_true x.dot y.dot t))) (λ f. f) (cases_Bool (one_dot_test x y)),
  all_false x ops (λ z i. h z (inr i)),
)

none_same : (x : OpValue) (ops : List OpValue) → AllByRecursion (λ y. one_dot_test x y ≡ false) ops → (y : OpValue)
    → In y ops → x.dot ≡ y.dot → ⊥
none_same x [] h y i e = i
none_same x (z ∷ ops) h y i e =
    ⊎_elim
    (λ (p : y ≡ z). true≢false (sym (subst (λ d. same_dot x.dot d ≡ true) (e ∙ ap (λ (o : OpValue). o.dot) p)
    (same_dot_refl x.dot)) ∙ h.0))
    (λ k. none_same x ops h.1 y k e) i

to_distinct : (ops : List OpValue) → DotsDiffer ops → IsDistinct one_dot_test ops
unfolding IsDistinct
to_distinct [] d = tt
to_distinct (x ∷ ops) d = (all_false x ops (all_in (OtherDot x) ops d.0), to_distinct ops d.1)

of_distinct : (ops : List OpValue) → IsDistinct one_dot_test ops → DotsDiffer ops
unfolding IsDistinct
of_distinct [] d = tt
of_distinct (x ∷ ops) d = (all_of (OtherDot x) ops (none_same x ops d.0), of_distinct ops d.1)

pub differ_permuted : (xs ys : List OpValue) → IsPermutation xs ys → DotsDiffer xs → DotsDiffer ys
differ_permuted xs ys p d = of_distinct ys (IsDistinct-IsPermutation one_dot_test flips xs ys p (to_distinct xs d))

pub line_up_of_sorted : (ops line : List OpValue) → DotsDiffer ops → IsPermutation ops line
    → IsSortedBy (λ x y. comes_before y x) line → line ≡ line_up ops
line_up_of_sorted ops line d p up =
    one_list line (line_up ops) (falling line (sorted_falls line up) (differ_permuted ops line p d))
    (line_up_falls ops d)
    (λ x i. line_up-In ops x (In-permutation line ops x (IsPermutation-sym ops line p) i))
    (λ x i. In-permutation ops line x p (In-line_up ops x i))

pub line_up_members : (ops : List OpValue) (x : OpValue) → In x (line_up ops) ↔ In x ops
line_up_members ops x = (In-line_up ops x, line_up-In ops x)

pub ruleset lined_up = (line_up_members, line_up_falls)
