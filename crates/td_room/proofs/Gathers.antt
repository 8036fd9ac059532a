-- The answers of all sites, put in the order of the editors.
use Rattle.std.proofs.Common.{◌≡◌, ◌≢◌, ◌<◌, ◌≤◌, ◌+◌, ◌-◌, ◌++◌, ℕ, zero, suc, List, [], ◌∷◌, Bool}
use Rattle.std.proofs.Common.{true, false, cond, nat_eq, length, map, drop, take, set, get_or, refl, sym}
use Rattle.std.proofs.Common.{ap, ◌∙◌, subst, append_assoc, append-nil, arith}
use Rattle.std.proofs.lemmas.Bool.Decides.{nat_tests}
use Rattle.std.specs.List.{AllByRecursion, AllZip}
use Rattle.td_line.specs.declared.answer.Answer.{Answer}
use Rattle.td_line.specs.Editors.{EditorValue}
use Rattle.td_room.specs.Rooms.{editors_of}
use Rattle.td_room.specs.Closing.{answers_of}
use Rattle.td_room.specs.Ending.{first_of, first_at, HasFirst, without_first, gathered, CanGather}

abbrev Sites : Type 0
Sites = List (List (List Answer))

-- ---- one place

pub as_many : (k : ℕ) (bs : Sites) → length (without_first k bs) ≡ length bs
as_many k [] = refl
as_many zero (b ∷ bs) = refl
as_many (suc k) (b ∷ bs) = ap suc (as_many k bs)

elsewhere : (k p : ℕ) (bs : Sites) → p ≢ k → get_or (without_first k bs) p [] ≡ get_or bs p []
elsewhere k p [] n = refl
elsewhere zero zero (b ∷ bs) n = absurd (n refl)
elsewhere zero (suc p) (b ∷ bs) n = refl
elsewhere (suc k) zero (b ∷ bs) n = refl
elsewhere (suc k) (suc p) (b ∷ bs) n = elsewhere k p bs (λ e. n (ap suc e))

-- where answers are put for the first of some editors, they are the first that are left
record Taken (S : EditorValue → List Answer → Type 0) (e : EditorValue) (es : List EditorValue) (k : ℕ)
    (bs : Sites) : Type 0 where
  has : HasFirst k bs
  first : S e (first_at k bs)
  rest : AllZip S es (get_or (without_first k bs) k [])
  is : get_or bs k [] ≡ first_at k bs ∷ get_or (without_first k bs) k []

taken : (S : EditorValue → List Answer → Type 0) (e : EditorValue) (es : List EditorValue) (k : ℕ) (bs : Sites)
    → AllZip S (e ∷ es) (get_or bs k []) → Taken S e es k bs
taken S e es k [] z = absurd z
taken S e es zero ([] ∷ bs) z = absurd z
taken S e es zero ((a ∷ b) ∷ bs) z = record { has = omega arith; first = z.0; rest = z.1; is = refl }
taken S e es (suc k) (b ∷ bs) z =
    let h = taken S e es k bs z in record { has = h.has; first = h.first; rest = h.rest; is = h.is }

same_test : (a b : ℕ) → a ≡ b → nat_eq a b ≡ true
same_test a b e = grind (arith, nat_tests)

test_same : (a b : ℕ) → nat_eq a b ≡ true → a ≡ b
test_same a b e = grind (arith, nat_tests)

test_other : (a b : ℕ) → nat_eq a b ≡ false → a ≢ b
test_other a b e f = absurd (contradiction a b e f)
  where
    contradiction : (c d : ℕ) → nat_eq c d ≡ false → c ≡ d → ⊥
    contradiction c d g h = grind (arith, nat_tests)

-- ---- all editors

abbrev pub homes : List EditorValue → List ℕ
homes es = map (λ (e : EditorValue). e.home) es

module _ (R : ℕ → EditorValue → List Answer → Type 0) where
  -- at each place stand the answers of the editors of that site
  pub record Fits (es : List EditorValue) (bs : Sites) : Type 0 where
    pub at_home : AllByRecursion (λ (e : EditorValue). (0 < e.home) × (e.home ≤ length bs)) es
    pub zips : (p : ℕ) → p < length bs → AllZip (R p) (editors_of (p + 1) es) (get_or bs p [])

  pub record Gathers (es : List EditorValue) (bs : Sites) : Type 0 where
    pub can : CanGather (homes es) bs
    pub zips : AllZip (λ (e : EditorValue) (a : List Answer). R (e.home - 1) e a) es (gathered (homes es) bs)
    pub back : (p : ℕ) → p < length bs → answers_of (p + 1) es (gathered (homes es) bs) ≡ get_or bs p []

  no_more : (p : ℕ) (b : List (List Answer)) → AllZip (R p) [] b → [] ≡ b
  no_more p [] z = refl
  no_more p (x ∷ b) z = absurd z

  -- the editor's own place
  own : (p : ℕ) (e : EditorValue) (es : List EditorValue) (bs : Sites) → e.home ≡ p + 1
      → AllZip (R p) (editors_of (p + 1) (e ∷ es)) (get_or bs p []) → Taken (R p) e (editors_of (p + 1) es) p bs
  own p e es bs h z =
      taken (R p) e (editors_of (p + 1) es) p bs
      (subst (λ (b : Bool). AllZip (R p) (cond b (e ∷ editors_of (p + 1) es) (editors_of (p + 1) es)) (get_or bs p []))
      (same_test e.home (p + 1) h) z)

  fits_next : (p : ℕ) (e : EditorValue) (es : List EditorValue) (bs : Sites) → e.home ≡ p + 1 → Fits (e ∷ es) bs
      → Taken (R p) e (editors_of (p + 1) es) p bs → Fits es (without_first p bs)
  fits_next p e es bs h f t =
      record {
        at_home = subst (λ (n : ℕ). AllByRecursion (λ (x : EditorValue). (0 < x.home) × (x.home ≤ n)) es)
            (sym (as_many p bs)) f.at_home.1;
        zips = λ q l. at q (subst (λ (n : ℕ). q < n) (as_many p bs) l) (nat_eq e.home (q + 1)) refl;
      }
    where
      at : (q : ℕ) → q < length bs → (b : Bool) → nat_eq e.home (q + 1) ≡ b
          → AllZip (R q) (editors_of (q + 1) es) (get_or (without_first p bs) q [])
      at q l true k =
          let same : p ≡ q = (let m = test_same e.home (q + 1) k in omega (arith, h, m)) in
          subst (λ (x : ℕ). AllZip (R x) (editors_of (x + 1) es) (get_or (without_first p bs) x [])) same t.rest
      at q l false k =
          let m = test_other e.home (q + 1) k in
          let apart : q ≢ p = λ g. m (h ∙ ap (λ (x : ℕ). x + 1) (sym g)) in
          subst (λ (b : List (List Answer)). AllZip (R q) (editors_of (q + 1) es) b) (sym (elsewhere p q bs apart))
          (subst (λ (b : Bool). AllZip (R q) (cond b (e ∷ editors_of (q + 1) es) (editors_of (q + 1) es))
          (get_or bs q [])) k
          (f.zips q l))

  back_next : (p : ℕ) (e : EditorValue) (es : List EditorValue) (bs : Sites) → e.home ≡ p + 1
      → Taken (R p) e (editors_of (p + 1) es) p bs → Gathers es (without_first p bs) → (q : ℕ) → q < length bs
      → answers_of (q + 1) (e ∷ es) (first_at p bs ∷ gathered (homes es) (without_first p bs)) ≡ get_or bs q []
  back_next p e es bs h t g q l = at (nat_eq e.home (q + 1)) refl
    where
      rest : answers_of (q + 1) es (gathered (homes es) (without_first p bs)) ≡ get_or (without_first p bs) q []
      rest = g.back q (subst (λ (n : ℕ). q < n) (sym (as_many p bs)) l)

      at : (b : Bool) → nat_eq e.home (q + 1) ≡ b
          → answers_of (q + 1) (e ∷ es) (first_at p bs ∷ gathered (homes es) (without_first p bs)) ≡ get_or bs q []
      at true k =
          let same : p ≡ q = (let m = test_same e.home (q + 1) k in omega (arith, h, m)) in
          ap (λ (b : Bool). cond b (first_at p bs ∷ answers_of (q + 1) es (gathered (homes es) (without_first p bs)))
          (answers_of (q + 1) es (gathered (homes es) (without_first p bs)))) k
          ∙ ap (λ (b : List (List Answer)). first_at p bs ∷ b) rest
          ∙ subst (λ (x : ℕ). first_at p bs ∷ get_or (without_first p bs) x [] ≡ get_or bs x []) same (sym t.is)
      at false k =
          let m = test_other e.home (q + 1) k in
          let apart : q ≢ p = λ f. m (h ∙ ap (λ (x : ℕ). x + 1) (sym f)) in
          ap (λ (b : Bool). cond b (first_at p bs ∷ answers_of (q + 1) es (gathered (homes es) (without_first p bs)))
          (answers_of (q + 1) es (gathered (homes es) (without_first p bs)))) k
          ∙ rest ∙ elsewhere p q bs apart

  pub gathers : (es : List EditorValue) (bs : Sites) → Fits es bs → Gathers es bs
  gathers [] bs f =
      record {
        can = tt;
        zips = tt;
        back = λ p l. no_more p (get_or bs p []) (f.zips p l);
      }
  gathers (e ∷ es) bs f =
      let p = e.home - 1 in
      let some : 0 < e.home = f.at_home.0.0 in
      let within : e.home ≤ length bs = f.at_home.0.1 in
      let h : e.home ≡ p + 1 = omega arith in
      let l : p < length bs = omega arith in
      let t = own p e es bs h (f.zips p l) in
      let g = gathers es (without_first p bs) (fits_next p e es bs h f t) in
      record {
        can = (some, t.has, g.can);
        zips = (t.first, g.zips);
        back = back_next p e es bs h t g;
      }

-- ---- one step of the walk

pub place_there : (k : ℕ) (bs : Sites) → HasFirst k bs → k < length bs
place_there k [] h = absurd h
place_there zero (b ∷ bs) h = omega arith
place_there (suc k) (b ∷ bs) h = omega (arith, place_there k bs h)

pub some_there : (k : ℕ) (bs : Sites) (b : List (List Answer)) → HasFirst k bs → b ≡ get_or bs k b → 0 < length b
some_there k [] b h e = absurd h
some_there zero (x ∷ bs) b h e = subst (λ (y : List (List Answer)). 0 < length y) (sym e) h
some_there (suc k) (x ∷ bs) b h e = some_there k bs b h e

pub first_is : (k : ℕ) (bs : Sites) (b left : List (List Answer)) (a : List Answer) → k < length bs → b ≡ get_or bs k b
    → b ≡ a ∷ left → (first_at k bs ≡ a) × (without_first k bs ≡ set bs k left)
first_is k [] b left a l e f = absurd (omega (arith, l))
first_is zero (x ∷ bs) b left a l e f =
    let is : x ≡ a ∷ left = sym e ∙ f in (ap first_of is, ap (λ (y : List (List Answer)). drop 1 y ∷ bs) is)
first_is (suc k) (x ∷ bs) b left a l e f =
    let h = first_is k bs b left a (omega (arith, l)) e f in
    (h.0, ap (λ (y : Sites). x ∷ y) h.1)

pub one_more : (old new : List (List Answer)) (hs rest : List ℕ) (h k : ℕ) (bs left : Sites) (a : List Answer)
    → new ≡ old ++ a ∷ [] → hs ≡ h ∷ rest → k ≡ h - 1 → first_at k bs ≡ a → without_first k bs ≡ left
    → new ++ gathered rest left ≡ old ++ gathered hs bs
one_more old new hs rest h k bs left a e p q f g =
    let one : gathered hs bs ≡ a ∷ gathered rest left =
    ap (λ (l : List ℕ). gathered l bs) p
    ∙ ap (λ (j : ℕ). first_at j bs ∷ gathered rest (without_first j bs)) (sym q)
    ∙ (λ i. f i ∷ gathered rest (g i)) in
    ap (λ (l : List (List Answer)). l ++ gathered rest left) e ∙ append_assoc old (a ∷ []) (gathered rest left)
    ∙ ap (λ (l : List (List Answer)). old ++ l) (sym one)

pub nothing_left : (all whole : List (List Answer)) (hs : List ℕ) (bs : Sites) → length hs ≡ 0
    → all ++ gathered hs bs ≡ whole → all ≡ whole
nothing_left all whole [] bs none e = sym (append-nil all) ∙ e
nothing_left all whole (h ∷ hs) bs none e = absurd (omega (arith, none))

-- editors of one site, and the others
pub none_to_sort : (f : List EditorValue → List EditorValue) (part whole left : List EditorValue) → f [] ≡ []
    → length left ≡ 0 → part ++ f left ≡ whole → part ≡ whole
none_to_sort f part whole [] nil none e = sym (append-nil part) ∙ ap (λ (l : List EditorValue). part ++ l) (sym nil) ∙ e
none_to_sort f part whole (x ∷ left) nil none e = absurd (omega (arith, none))

pub homes_more : (es : List EditorValue) (i : ℕ) (e : EditorValue) → i < length es → e ≡ get_or es i e
    → homes (take (i + 1) es) ≡ homes (take i es) ++ e.home ∷ []
homes_more es i e l f =
    let one : i + 1 ≡ suc i = omega arith in
    ap (λ (k : ℕ). homes (take k es)) one ∙ next es i l f
  where
    next : (xs : List EditorValue) (k : ℕ) → k < length xs → e ≡ get_or xs k e
        → homes (take (suc k) xs) ≡ homes (take k xs) ++ e.home ∷ []
    next [] k m g = absurd (omega (arith, m))
    next (x ∷ xs) zero m g = ap (λ (y : EditorValue). y.home ∷ []) (sym g)
    next (x ∷ xs) (suc k) m g = ap (λ (l : List ℕ). x.home ∷ l) (next xs k (omega (arith, m)) g)

pub homes_all : (es : List EditorValue) (i : ℕ) → length es ≤ i → homes (take i es) ≡ homes es
homes_all [] zero l = refl
homes_all [] (suc i) l = refl
homes_all (e ∷ es) zero l = absurd (omega (arith, l))
homes_all (e ∷ es) (suc i) l = ap (λ (k : List ℕ). e.home ∷ k) (homes_all es i (omega (arith, l)))
