-- The ready operation of a site, which is the next one there, and the least of all sites.
use Rattle.std.proofs.Common.{◌≡◌, ◌≤◌, ◌<◌, ◌+◌, ◌⊎◌, ◌==◌, ◌&&◌, ℕ, List, [], ◌∷◌, length}
use Rattle.std.proofs.Common.{Bool, true, false, not, zero, suc}
use Rattle.std.proofs.Common.{cond, find, filter, if◌then◌else◌, nat_le, Option, Some, None, IfSome, is_some, option_map}
use Rattle.std.proofs.Common.{refl, sym, ap, ◌∙◌, subst, inl, inr, ⊎_elim, true≢false, arith}
use Rattle.std.proofs.lemmas.Bool.{and_parts, and_from, eqb-true, eq-eqb, leb-true}
use Rattle.std.proofs.lemmas.Bool.{le-leb, false_from_ne_true, not-true}
use Rattle.std.proofs.lemmas.Bool.Decides.{nat_tests}
use Rattle.std.proofs.lemmas.Map.Entries.{option_filter}
use borrow.Author.Count.{below_more}
use Rattle.td_base.specs.Value.{DotValue, IsDot}
use Rattle.td_base.specs.Order.{dot_lt}
use Rattle.td_base.specs.Equality.{same_dot}
use Rattle.td_base.specs.Lists.{In, Successive}
use Rattle.td_base.specs.declared.dot.TheConstants.{MAX_SEQ}
use Rattle.td_base.proofs.Elements.{both_tests}
use Rattle.td_base.proofs.Equals.{same_dot_true, same_dot_refl}
use Rattle.td_base.proofs.Lists.{all_in, In-filter, filter_In, successive_imp}
use Rattle.td_base.proofs.Orders.{dot_lt_true, dot_apart}
use Rattle.td_base.proofs.Rising.{rises_tri}
use Rattle.td_base.proofs.Searches.{find_In, find_none, filter_none, find_nothing, find_both}
use Rattle.td_clock.specs.Vector.{vector_get, vector_has, vector_covers}
use Rattle.td_clock.proofs.VectorLemmas.{covered_dots}
use Rattle.td_op.specs.Op.{OpValue, IsOp}
use Rattle.td_machine.specs.Ready.{is_had, is_ready, is_dot_of, smaller_op, least_op, next_ready}
use Rattle.td_machine.proofs.StepKinds.{least_in}
use Rattle.std.specs.Prelude.{slice_get}
use Rattle.std.specs.List.{AllByRecursion}
use Rattle.std.specs.Option.{option_and_then}
use Rattle.std.proofs.lemmas.Option.{slice_get_within}
use Rattle.td_causal.specs.Waiting.{Numbers, ops_waiting, number_of, is_ready_of, IsStored, AreStored}
use Rattle.td_causal.specs.BufferParts.{AreEntries}
use Rattle.td_causal.proofs.Kept.{seen, found_by_dot}
use Rattle.td_causal.proofs.Entries.{later_other}

-- ---- what is ready is the next of its site

above : (m n : ℕ) → nat_le m n ≡ false → m ≤ n + 1 → m ≡ n + 1
above m n h k = grind (arith, nat_tests)

not_had : (n : ℕ) → not (nat_le (n + 1) n) ≡ true
not_had n = grind (arith, nat_tests)

-- a vector that covers what an operation depends on has all before it
covered_before : (have : List ℕ) (x : OpValue) → IsOp x → vector_covers have x.deps ≡ true
    → x.dot.seq ≤ vector_get have x.dot.site + 1
covered_before have x op h =
    let known : ℕ = vector_get x.deps x.dot.site in
    let had : vector_has have (record { site = x.dot.site; seq = known }) ≡ true =
    covered_dots have x.deps h (record { site = x.dot.site; seq = known }) (le-leb known known (omega arith)) in
    let le : known ≤ vector_get have x.dot.site = leb-true known (vector_get have x.dot.site) had in
    omega (arith, le, op.next)

pub ready_is_next : (have : List ℕ) (x : OpValue) → IsOp x → is_ready have x ≡ true
    → x.dot.seq ≡ vector_get have x.dot.site + 1
ready_is_next have x op h =
    let p = and_parts (not (is_had have x)) (vector_covers have x.deps) h in
    above x.dot.seq (vector_get have x.dot.site) (not-true (is_had have x) p.0) (covered_before have x op p.1)

-- the dot after those of a site that a vector has
abbrev next_dot : ℕ → List ℕ → DotValue
next_dot site have = record { site = site; seq = vector_get have site + 1 }

ready_dot : (site : ℕ) (have : List ℕ) (w : OpValue) → IsOp w → is_ready_of site have w ≡ true
    → w.dot ≡ next_dot site have
ready_dot site have w op h =
    let p = and_parts (w.dot.site == site) (is_ready have w) h in
    let at : w.dot.site ≡ site = eqb-true w.dot.site site p.0 in
    let seq : w.dot.seq ≡ vector_get have site + 1 =
    ready_is_next have w op p.1 ∙ ap (λ (s : ℕ). vector_get have s + 1) at in
    λ i. record { site = at i; seq = seq i }

-- an operation of a site is ready where it is the next one, and covered
ready_test : (site : ℕ) (have : List ℕ) (w : OpValue) → IsOp w
    → is_ready_of site have w ≡ (is_dot_of (next_dot site have) w && vector_covers have w.deps)
ready_test site have w op =
    both_tests (is_ready_of site have w) (is_dot_of (next_dot site have) w && vector_covers have w.deps) there back
  where
    there : is_ready_of site have w ≡ true → (is_dot_of (next_dot site have) w && vector_covers have w.deps) ≡ true
    there h =
        let p = and_parts (w.dot.site == site) (is_ready have w) h in
        let dot : is_dot_of (next_dot site have) w ≡ true =
        subst (λ (d : DotValue). same_dot w.dot d ≡ true) (ready_dot site have w op h) (same_dot_refl w.dot) in
        and_from (is_dot_of (next_dot site have) w) (vector_covers have w.deps) dot
        (and_parts (not (is_had have w)) (vector_covers have w.deps) p.1).1

    back : (is_dot_of (next_dot site have) w && vector_covers have w.deps) ≡ true → is_ready_of site have w ≡ true
    back h =
        let p = and_parts (is_dot_of (next_dot site have) w) (vector_covers have w.deps) h in
        let dot : w.dot ≡ next_dot site have = same_dot_true w.dot (next_dot site have) p.0 in
        let new : not (is_had have w) ≡ true =
        subst (λ (d : DotValue). not (vector_has have d) ≡ true) (sym dot) (not_had (vector_get have site)) in
        and_from (w.dot.site == site) (is_ready have w)
        (eq-eqb w.dot.site site (ap (λ (d : DotValue). d.site) dot))
        (and_from (not (is_had have w)) (vector_covers have w.deps) new p.1)

abbrev Rising : List OpValue → Type 0
Rising ws = Successive (λ (w v : OpValue). dot_lt w.dot v.dot ≡ true) ws

one_dot : (d : DotValue) (ws : List OpValue) → Rising ws
    → Successive (λ (w v : OpValue). is_dot_of d w ≡ true → is_dot_of d v ≡ false) ws
one_dot d ws r =
    successive_imp (λ (w v : OpValue). dot_lt w.dot v.dot ≡ true)
    (λ (w v : OpValue). is_dot_of d w ≡ true → is_dot_of d v ≡ false)
    (λ w v h e.
    let same : w.dot ≡ d = same_dot_true w.dot d e in
    later_other d v.dot (subst (λ (x : DotValue). dot_lt x v.dot ≡ true) same h))
    ws r

-- ---- the least

abbrev IsLeast : OpValue → List OpValue → Type 0
IsLeast x ops = (y : OpValue) → In y ops → (y ≡ x) ⊎ (dot_lt x.dot y.dot ≡ true)

smaller_first : (x : OpValue) (ops : List OpValue) (o : Option OpValue) → least_op ops ≡ o → IsLeast x ops
    → smaller_op x o ≡ x
smaller_first x ops None h least = refl
smaller_first x ops (Some z) h least = at (dot_lt z.dot x.dot) refl (least z (least_in ops z h))
  where
    at : (b : Bool) → dot_lt z.dot x.dot ≡ b → (z ≡ x) ⊎ (dot_lt x.dot z.dot ≡ true) → (if b then z else x) ≡ x
    at true e (inl f) = f
    at true e (inr f) = absurd (dot_apart x.dot z.dot f e)
    at false e f = refl

smaller_later : (x y : OpValue) (b : Bool) → dot_lt x.dot y.dot ≡ b → (y ≡ x) ⊎ (dot_lt x.dot y.dot ≡ true)
    → (if b then x else y) ≡ x
smaller_later x y true h e = refl
smaller_later x y false h (inl e) = e
smaller_later x y false h (inr e) = absurd (true≢false (sym e ∙ h))

least_is : (ops : List OpValue) (x : OpValue) → In x ops → IsLeast x ops → least_op ops ≡ Some x
least_is [] x i least = absurd i
least_is (y ∷ ops) x (inl e) least =
    ap (λ (z : OpValue). Some (smaller_op z (least_op ops))) (sym e)
    ∙ ap Some (smaller_first x ops (least_op ops) refl (λ z j. least z (inr j)))
least_is (y ∷ ops) x (inr i) least =
    ap (λ (o : Option OpValue). Some (smaller_op y o)) (least_is ops x i (λ z j. least z (inr j)))
    ∙ ap Some (smaller_later x y (dot_lt x.dot y.dot) refl (least y (inl refl)))

-- ---- among what waits

-- operations of so many sites, with dots in range, which rise
pub record AreWaiting (n : ℕ) (ws : List OpValue) : Type 0 where
  pub dots : AllByRecursion (λ (w : OpValue). IsDot w.dot) ws
  pub ops : AllByRecursion (λ (w : OpValue). IsOp w) ws
  pub sizes : AllByRecursion (λ (w : OpValue). length w.deps ≡ n) ws
  pub rising : Rising ws

-- no site below n has a ready operation
abbrev pub NoneBelow : ℕ → List ℕ → List OpValue → Type 0
NoneBelow n have ws = (k : ℕ) → k < n → 1 ≤ k → find (is_ready_of k have) ws ≡ None

pub none_more : (n : ℕ) (have : List ℕ) (ws : List OpValue) → NoneBelow n have ws → find (is_ready_of n have) ws ≡ None
    → NoneBelow (n + 1) have ws
none_more n have ws none here = below_more (λ k. 1 ≤ k → find (is_ready_of k have) ws ≡ None) n none (λ least. here)

module _ (have : List ℕ) (ws : List OpValue) (a : AreWaiting (length have) ws) where
  op_of : (w : OpValue) → In w ws → IsOp w
  op_of w i = all_in (λ (w : OpValue). IsOp w) ws a.ops w i

  range_of : (w : OpValue) → In w ws → IsDot w.dot
  range_of w i = all_in (λ (w : OpValue). IsDot w.dot) ws a.dots w i

  -- what a search by dot finds is the ready operation where it is covered; s is the number of the site
  pub found_ready : (site s : ℕ) (d : DotValue) (o : Option OpValue) → s ≡ vector_get have site
      → d ≡ record { site = site; seq = s + 1 } → o ≡ find (is_dot_of d) ws
      → option_filter (λ (w : OpValue). vector_covers have w.deps) o ≡ find (is_ready_of site have) ws
  found_ready site s d o number dot found =
      let covered : OpValue → Bool = λ (w : OpValue). vector_covers have w.deps in
      let next : d ≡ next_dot site have = dot ∙ (λ i. record { site = site; seq = number i + 1 }) in
      ap (option_filter covered) (found ∙ ap (λ (e : DotValue). find (is_dot_of e) ws) next)
      ∙ sym (find_both (is_dot_of (next_dot site have)) covered (is_ready_of site have) ws
      (λ w i. ready_test site have w (op_of w i)) (one_dot (next_dot site have) ws a.rising))

  -- no operation has a number past the greatest
  pub none_past : (site s : ℕ) → s ≡ vector_get have site → ¬ ((1 ≤ s + 1) × (s + 1 ≤ MAX_SEQ))
      → find (is_ready_of site have) ws ≡ None
  none_past site s number past =
      find_nothing (is_ready_of site have) ws
      (λ w i. false_from_ne_true (is_ready_of site have w) (λ (h : is_ready_of site have w ≡ true).
      let dot : w.dot ≡ next_dot site have = ready_dot site have w (op_of w i) h in
      let seq : w.dot.seq ≡ vector_get have site + 1 = ap (λ (d : DotValue). d.seq) dot in
      past (omega arith, omega (arith, seq, number, (range_of w i).greatest))))

  -- the site of what is ready is none of those below n
  not_below : (n : ℕ) → NoneBelow n have ws → (w : OpValue) → In w ws → is_ready have w ≡ true → n ≤ w.dot.site
  not_below n none w i h = not_less (λ (less : w.dot.site < n).
      let site : ℕ = w.dot.site in
      let no : is_ready_of site have w ≡ false =
      find_none (is_ready_of site have) ws w (none site less (range_of w i).site.least) i in
      true≢false (sym (and_from (site == site) (is_ready have w) (eq-eqb site site refl) h) ∙ no))
    where
      not_less : {m k : ℕ} → (k < m → ⊥) → m ≤ k
      not_less f = omega (arith, f)

  first_or_later : (n : ℕ) → NoneBelow n have ws → (w : OpValue) → In w ws → is_ready_of n have w ≡ true
      → (v : OpValue) → In v ws → is_ready have v ≡ true → (v ≡ w) ⊎ (dot_lt w.dot v.dot ≡ true)
  first_or_later n none w i r v j s =
      let dot : w.dot ≡ next_dot n have = ready_dot n have w (op_of w i) r in
      let site : w.dot.site ≡ n = ap (λ (d : DotValue). d.site) dot in
      let seq : w.dot.seq ≡ vector_get have n + 1 = ap (λ (d : DotValue). d.seq) dot in
      let next : v.dot.seq ≡ vector_get have v.dot.site + 1 = ready_is_next have v (op_of v j) s in
      let behind : n ≤ v.dot.site = not_below n none v j s in
      let not_before : dot_lt v.dot w.dot ≡ true → ⊥ = λ lt. ⊎_elim
      (λ (q : v.dot.site < w.dot.site). omega arith)
      (λ (q : (v.dot.site ≡ w.dot.site) × (v.dot.seq < w.dot.seq)).
      let same : vector_get have v.dot.site ≡ vector_get have n = ap (vector_get have) (q.0 ∙ site) in
      omega (arith, q.1, same, next, seq))
      (dot_lt_true v.dot w.dot lt) in
      ⊎_elim (λ (e : v ≡ w). inl e)
      (λ (k : (dot_lt v.dot w.dot ≡ true) ⊎ (dot_lt w.dot v.dot ≡ true)).
      ⊎_elim (λ lt. absurd (not_before lt)) (λ lt. inr lt) k)
      (rises_tri (λ (w v : OpValue). dot_lt w.dot v.dot ≡ true) ws a.rising v w j i)

  -- of the first site with a ready operation
  pub least_ready : (n : ℕ) (w : OpValue) → NoneBelow n have ws → find (is_ready_of n have) ws ≡ Some w
      → next_ready have ws ≡ Some w
  least_ready n w none found =
      let f = find_In (is_ready_of n have) ws w found in
      let ready : is_ready have w ≡ true = (and_parts (w.dot.site == n) (is_ready have w) f.1).1 in
      least_is (filter (is_ready have) ws) w
      (filter_In (is_ready have) w ws f.0 ready)
      (λ x i.
      let g = In-filter (is_ready have) x ws i in
      first_or_later n none w f.0 f.1 x g.0 g.1)

  -- where no site has one
  pub none_ready : (n : ℕ) → length have < n → NoneBelow n have ws → next_ready have ws ≡ None
  none_ready n past none =
      ap least_op (filter_none (is_ready have) ws
      (λ x i. false_from_ne_true (is_ready have x) (λ (h : is_ready have x ≡ true).
      let behind : n ≤ x.dot.site = not_below n none x i h in
      let long : length x.deps ≡ length have =
      all_in (λ (w : OpValue). length w.deps ≡ length have) ws a.sizes x i in
      omega (arith, behind, long, (op_of x i).own, past))))

  -- the first site of which one is ready has the least
  pub least_of : (n : ℕ) → NoneBelow n have ws → (o : Option OpValue) → find (is_ready_of n have) ws ≡ o
      → is_some o ≡ true → find (is_ready_of n have) ws ≡ next_ready have ws
  least_of n none None e h = absurd cc
  least_of n none (Some w) e h = e ∙ sym (least_ready n w none e)

-- ---- those that are stored

pub waiting_stored : (n : ℕ) (ops : List OpValue) (es : Numbers) → AreEntries es → AreStored n ops es
    → AreWaiting n (ops_waiting ops es)
waiting_stored n ops es a stored = waiting_of es a.dots a.rising stored
  where
    below : (d : DotValue) (es : Numbers) → AllByRecursion (λ (v : DotValue × ℕ). dot_lt d v.0 ≡ true) es
        → AreStored n ops es → AllByRecursion (λ (x : OpValue). dot_lt d x.dot ≡ true) (ops_waiting ops es)
    below d [] h stored = tt
    below d (e ∷ es) h stored =
        subst (AllByRecursion (λ (x : OpValue). dot_lt d x.dot ≡ true)) (sym (seen n ops e es stored.0))
        (subst (λ (f : DotValue). dot_lt d f ≡ true) stored.0.dot h.0, below d es h.1 stored.1)

    waiting_of : (es : Numbers) → AllByRecursion (λ (w : DotValue × ℕ). IsDot w.0) es
        → Successive (λ (w v : DotValue × ℕ). dot_lt w.0 v.0 ≡ true) es → AreStored n ops es
        → AreWaiting n (ops_waiting ops es)
    waiting_of [] dots rising stored = record { dots = tt; ops = tt; sizes = tt; rising = tt }
    waiting_of (e ∷ es) dots rising stored =
        let rest : AreWaiting n (ops_waiting ops es) = waiting_of es dots.1 rising.1 stored.1 in
        subst (AreWaiting n) (sym (seen n ops e es stored.0)) (record {
          dots = (subst IsDot stored.0.dot dots.0, rest.dots);
          ops = (stored.0.is, rest.ops);
          sizes = (stored.0.size, rest.sizes);
          rising = (
            subst (λ (d : DotValue). AllByRecursion (λ (x : OpValue). dot_lt d x.dot ≡ true) (ops_waiting ops es))
                stored.0.dot (below e.0 es rising.0 stored.1),
            rest.rising,
          );
        })

-- ---- by their numbers

-- the operation with the dot is the one that is stored by the number
record IsAtNumber (n : ℕ) (ops : List OpValue) (d : DotValue) (k : ℕ) (es : Numbers) : Type 0 where
  op : OpValue
  found : slice_get ops k ≡ Some op
  size : length op.deps ≡ n
  first : find (is_dot_of d) (ops_waiting ops es) ≡ Some op

some_same : (m k : ℕ) → Some k ≡ Some m → m ≡ k
some_same m k h = cc h

stored_at : (n : ℕ) (ops : List OpValue) (d : DotValue) (k : ℕ) (es : Numbers) → AreStored n ops es
    → number_of d es ≡ Some k → (w : DotValue × ℕ) × (w.1 ≡ k) × IsStored n ops w
stored_at n ops d k [] stored found = absurd cc
stored_at n ops d k (e ∷ es) stored found = at (same_dot e.0 d) (stored_at n ops d k es stored.1) found
  where
    at : (b : Bool) → (number_of d es ≡ Some k → (w : DotValue × ℕ) × (w.1 ≡ k) × IsStored n ops w)
        → cond b (Some e.1) (number_of d es) ≡ Some k → (w : DotValue × ℕ) × (w.1 ≡ k) × IsStored n ops w
    at true ih h = (e, some_same e.1 k (sym h), stored.0)
    at false ih h = ih h

at_number : (n : ℕ) (ops : List OpValue) (d : DotValue) (k : ℕ) (es : Numbers) → AreStored n ops es
    → number_of d es ≡ Some k → IsAtNumber n ops d k es
at_number n ops d k es stored number =
    let w = stored_at n ops d k es stored number in
    let found : slice_get ops k ≡ Some w.2.op = ap (slice_get ops) (sym w.1) ∙ w.2.found in
    record {
      op = w.2.op;
      found = found;
      size = w.2.size;
      first = sym (found_by_dot n ops d es stored) ∙ ap (option_and_then (slice_get ops)) number ∙ found;
    }

pub number_within : (n : ℕ) (ops : List OpValue) (d : DotValue) (k : ℕ) (es : Numbers) → AreStored n ops es
    → number_of d es ≡ Some k → k < length ops
number_within n ops d k es stored number =
    let at = at_number n ops d k es stored number in
    slice_get_within ops k at.op at.found

same_deps : (ops : List OpValue) (k : ℕ) (x : OpValue) (deps : List ℕ) → slice_get ops k ≡ Some x
    → option_map (λ (y : OpValue). y.deps) (slice_get ops k) ≡ Some deps → x.deps ≡ deps
same_deps ops k x deps found is = some_deps (sym (ap (option_map (λ (y : OpValue). y.deps)) found) ∙ is)
  where
    some_deps : Some x.deps ≡ Some deps → x.deps ≡ deps
    some_deps h = cc h

pub number_deps : (n : ℕ) (ops : List OpValue) (d : DotValue) (k : ℕ) (es : Numbers) (deps : List ℕ)
    → AreStored n ops es → number_of d es ≡ Some k
    → option_map (λ (y : OpValue). y.deps) (slice_get ops k) ≡ Some deps → n ≡ length deps
number_deps n ops d k es deps stored number is =
    let at = at_number n ops d k es stored number in
    sym (ap length (sym (same_deps ops k at.op deps at.found is)) ∙ at.size)

module _ (have : List ℕ) (ops : List OpValue) (es : Numbers) (a : AreEntries es)
    (stored : AreStored (length have) ops es) where
  abbrev Found : ℕ → Option OpValue
  Found site = find (is_ready_of site have) (ops_waiting ops es)

  waiting : AreWaiting (length have) (ops_waiting ops es)
  waiting = waiting_stored (length have) ops es a stored

  -- by the number of the dot after those that are had, and whether what its operation depends on is had
  pub ready_at : (site s k : ℕ) (d : DotValue) (deps : List ℕ) (b : Bool) → s ≡ vector_get have site
      → d ≡ record { site = site; seq = s + 1 } → number_of d es ≡ Some k
      → option_map (λ (y : OpValue). y.deps) (slice_get ops k) ≡ Some deps → b ≡ vector_covers have deps
      → (if b then slice_get ops k else None) ≡ Found site
  ready_at site s k d deps b number dot kept is covers =
      let at = at_number (length have) ops d k es stored kept in
      let same : b ≡ vector_covers have at.op.deps =
      covers ∙ ap (vector_covers have) (sym (same_deps ops k at.op deps at.found is)) in
      ap (λ (o : Option OpValue). if b then o else None) at.found
      ∙ ap (λ (c : Bool). if c then Some at.op else None) same
      ∙ found_ready have (ops_waiting ops es) waiting site s d (Some at.op) number dot (sym at.first)

  pub none_at : (site s : ℕ) (d : DotValue) → s ≡ vector_get have site → d ≡ record { site = site; seq = s + 1 }
      → number_of d es ≡ None → None ≡ Found site
  none_at site s d number dot kept =
      found_ready have (ops_waiting ops es) waiting site s d None number dot
      (sym (ap (option_and_then (slice_get ops)) kept) ∙ found_by_dot (length have) ops d es stored)

  pub past_at : (site s : ℕ) → s ≡ vector_get have site → ¬ ((1 ≤ s + 1) × (s + 1 ≤ MAX_SEQ)) → None ≡ Found site
  past_at site s number past = sym (none_past have (ops_waiting ops es) waiting site s number past)

-- what a number within stands for is there
some_within : (ops : List OpValue) (k : ℕ) → k < length ops → is_some (slice_get ops k) ≡ true
some_within [] k h = absurd (omega (arith, h))
some_within (x ∷ ops) zero h = refl
some_within (x ∷ ops) (suc k) h = some_within ops k (omega (arith, h))

pub some_as : (ops : List OpValue) (o : Option ℕ) (found : Option OpValue)
    → option_and_then (slice_get ops) o ≡ found → IfSome o (λ k. k < length ops) → is_some o ≡ is_some found
some_as ops None found e h = ap is_some e
some_as ops (Some k) found e h = sym (some_within ops k h) ∙ ap is_some e
