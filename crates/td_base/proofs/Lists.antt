-- What is in a list, and lists of which each element stands in a relation to each that follows it.
use Rattle.std.proofs.Common.{◌<◌, ℕ, zero, suc, length, get_or, arith, ◌≡◌, ◌⊎◌, List, [], ◌∷◌, ◌++◌, Bool, true}
use Rattle.std.proofs.Common.{false, cond, map, filter, refl, sym, ap, subst, inl, inr, ⊎_elim, true≢false}
use Rattle.std.specs.List.{AllByRecursion, Contains, list_any}
use Rattle.std.specs.List.Sorted.{IsPermutation}
use Rattle.std.proofs.lemmas.List.Sorted.{Contains-permutation}
use Rattle.std.proofs.lemmas.Bool.{or_cases, or_left, or_right, or_parts}
use Rattle.td_base.specs.Lists.{In, Successive}

pub In-append : {X : Type 0} (x : X) (xs ys : List X) → In x (xs ++ ys) → In x xs ⊎ In x ys
In-append x [] ys h = inr h
In-append x (z ∷ xs) ys h = ⊎_elim (λ (e : x ≡ z). inl (inl e))
    (λ (i : In x (xs ++ ys)). ⊎_elim (λ (j : In x xs). inl (inr j)) (λ (j : In x ys). inr j) (In-append x xs ys i)) h

pub In-front : {X : Type 0} (x : X) (xs ys : List X) → In x xs → In x (xs ++ ys)
In-front x [] ys h = absurd h
In-front x (z ∷ xs) ys h = ⊎_elim (λ (e : x ≡ z). inl e) (λ (i : In x xs). inr (In-front x xs ys i)) h

pub In-back : {X : Type 0} (x : X) (xs ys : List X) → In x ys → In x (xs ++ ys)
In-back x [] ys h = h
In-back x (z ∷ xs) ys h = inr (In-back x xs ys h)

-- what passes a test

In-filter_at : {X : Type 0} (test : X → Bool) (x y : X) (ys : List X) (b : Bool) → b ≡ test y
    → (In x (filter test ys) → In x ys × (test x ≡ true)) → In x (cond b (y ∷ filter test ys) (filter test ys))
    → In x (y ∷ ys) × (test x ≡ true)
In-filter_at test x y ys true e rest h = ⊎_elim (λ (p : x ≡ y). (inl p, subst (λ z. test z ≡ true) (sym p) (sym e)))
    (λ (k : In x (filter test ys)). (inr (rest k).0, (rest k).1)) h
In-filter_at test x y ys false e rest h = (inr (rest h).0, (rest h).1)

pub In-filter : {X : Type 0} (test : X → Bool) (x : X) (xs : List X) → In x (filter test xs) → In x xs × (test x ≡ true)
In-filter test x [] h = absurd h
In-filter test x (y ∷ ys) h = In-filter_at test x y ys (test y) refl (λ k. In-filter test x ys k) h

filter_In_at : {X : Type 0} (x : X) (ys : List X) (b : Bool) → b ≡ true → In x (cond b (x ∷ ys) ys)
filter_In_at x ys true e = inl refl
filter_In_at x ys false e = absurd (true≢false (sym e))

filter_In_later : {X : Type 0} (x y : X) (ys : List X) (b : Bool) → In x ys → In x (cond b (y ∷ ys) ys)
filter_In_later x y ys true h = inr h
filter_In_later x y ys false h = h

pub filter_In : {X : Type 0} (test : X → Bool) (x : X) (xs : List X) → In x xs → test x ≡ true → In x (filter test xs)
filter_In test x [] h e = absurd h
filter_In test x (y ∷ ys) h e =
    ⊎_elim
    (λ (p : x ≡ y). subst (λ z. In x (cond (test z) (z ∷ filter test ys) (filter test ys))) p
    (filter_In_at x (filter test ys) (test x) e))
    (λ (k : In x ys). filter_In_later x y (filter test ys) (test y) (filter_In test x ys k e))
    h

pub any_found : {X : Type 0} (test : X → Bool) (xs : List X) → list_any test xs ≡ true → (x : X) × In x xs
    × (test x ≡ true)
any_found test [] h = absurd (true≢false (sym h))
any_found {X} test (x ∷ xs) h =
    ⊎_elim (λ a. (x, inl refl, a)) (λ (b : list_any test xs ≡ true). let r = any_found test xs b in
    (r.0, inr r.1, r.2)) (or_cases (test x) (list_any test xs) h)

pub any_from : {X : Type 0} (test : X → Bool) (xs : List X) (x : X) → In x xs → test x ≡ true → list_any test xs ≡ true
any_from test [] x h e = absurd h
any_from test (y ∷ ys) x h e =
    ⊎_elim (λ (p : x ≡ y). or_left (test y) (list_any test ys) (subst (λ z. test z ≡ true) p e))
    (λ k. or_right (test y) (list_any test ys) (any_from test ys x k e)) h

pub any_none : {X : Type 0} (test : X → Bool) (xs : List X) (x : X) → list_any test xs ≡ false → In x xs → test x
    ≡ false
any_none test [] x h k = absurd k
any_none test (y ∷ ys) x h k =
    let e = or_parts (test y) (list_any test ys) h in
    ⊎_elim (λ (p : x ≡ y). subst (λ z. test z ≡ false) (sym p) e.0) (λ i. any_none test ys x e.1 i) k

module _ {X : Type 0} (P : X → Type 0) where
  pub all_in : (xs : List X) → AllByRecursion P xs → (x : X) → In x xs → P x
  all_in [] h x i = absurd i
  all_in (y ∷ xs) h x i = ⊎_elim (λ (e : x ≡ y). subst P (sym e) h.0) (λ (j : In x xs). all_in xs h.1 x j) i

  pub all_of : (xs : List X) → ((x : X) → In x xs → P x) → AllByRecursion P xs
  all_of [] h = tt
  all_of (x ∷ xs) h = (h x (inl refl), all_of xs (λ y i. h y (inr i)))

module _ {X : Type 0} (R : X → X → Type 0) where
  -- each element of the front stands in the relation to each of the back
  pub across : (front back : List X) → Successive R (front ++ back) → (x y : X) → In x front → In y back → R x y
  across [] back h x y i j = absurd i
  across (z ∷ front) back h x y i j =
      ⊎_elim
      (λ (e : x ≡ z). subst (λ w. R w y) (sym e) (all_in (R z) (front ++ back) h.0 y (In-back y front back j)))
      (λ (k : In x front). across front back h.1 x y k j)
      i

  pub successive_back : (front back : List X) → Successive R (front ++ back) → Successive R back
  successive_back [] back h = h
  successive_back (z ∷ front) back h = successive_back front back h.1

  pub successive_front : (front back : List X) → Successive R (front ++ back) → Successive R front
  successive_front [] back h = tt
  successive_front (z ∷ front) back h = (
    all_of (R z) front
        (λ x i. all_in (R z) (front ++ back) h.0 x (In-front x front back i)),
    successive_front front back h.1,
  )

  pub successive_append : (front back : List X) → Successive R front → Successive R back
      → ((x y : X) → In x front → In y back → R x y) → Successive R (front ++ back)
  successive_append [] back f b h = b
  successive_append (z ∷ front) back f b h = (
    all_of (R z) (front ++ back) (λ x i. ⊎_elim (λ (j : In x front). all_in (R z) front f.0 x j)
        (λ (j : In x back). h z x (inl refl) j) (In-append x front back i)),
    successive_append front back f.1 b
        (λ x y i j. h x y (inr i) j),
  )

  filter_at : (test : X → Bool) (x : X) (xs : List X) (b : Bool) → AllByRecursion (R x) xs
      → Successive R (filter test xs) → Successive R (cond b (x ∷ filter test xs) (filter test xs))
  filter_at test x xs true h ih = (
    all_of (R x) (filter test xs)
        (λ y i. all_in (R x) xs h y (In-filter test y xs i).0),
    ih,
  )
  filter_at test x xs false h ih = ih

  -- some of them, in their order
  pub successive_filter : (test : X → Bool) (xs : List X) → Successive R xs → Successive R (filter test xs)
  successive_filter test [] h = tt
  successive_filter test (x ∷ xs) h = filter_at test x xs (test x) h.0 (successive_filter test xs h.1)

pub successive_imp : {X : Type 0} (R S : X → X → Type 0) → ((x y : X) → R x y → S x y) → (xs : List X)
    → Successive R xs → Successive S xs
successive_imp R S f [] h = tt
successive_imp R S f (x ∷ xs) h = (
  all_of (S x) xs (λ y i. f x y (all_in (R x) xs h.0 y i)),
  successive_imp R S f xs
      h.1,
)

-- through a map

pub map_In : {X Y : Type 0} (f : X → Y) (y : Y) (xs : List X) → In y (map f xs) → (x : X) × In x xs × (y ≡ f x)
map_In f y [] h = absurd h
map_In f y (x ∷ xs) h = ⊎_elim (λ (e : y ≡ f x). (x, inl refl, e))
    (λ (k : In y (map f xs)). let r = map_In f y xs k in (r.0, inr r.1, r.2)) h

pub In-map : {X Y : Type 0} (f : X → Y) (x : X) (xs : List X) → In x xs → In (f x) (map f xs)
In-map f x [] h = absurd h
In-map f x (y ∷ xs) h = ⊎_elim (λ (e : x ≡ y). inl (ap f e)) (λ (k : In x xs). inr (In-map f x xs k)) h

pub successive_map : {X Y : Type 0} (S : Y → Y → Type 0) (f : X → Y) (xs : List X)
    → Successive (λ (x y : X). S (f x) (f y)) xs → Successive S (map f xs)
successive_map S f [] h = tt
successive_map S f (x ∷ xs) h = (
  all_of (S (f x)) (map f xs)
      (λ y i. let r = map_In f y xs i in subst (S (f x)) (sym r.2) (all_in (λ y. S (f x) (f y)) xs h.0 r.0 r.1)),
  successive_map S f xs h.1,
)

pub map_successive : {X Y : Type 0} (S : Y → Y → Type 0) (f : X → Y) (xs : List X) → Successive S (map f xs)
    → Successive (λ (x y : X). S (f x) (f y)) xs
map_successive S f [] h = tt
map_successive S f (x ∷ xs) h = (
  all_of (λ y. S (f x) (f y)) xs
      (λ y i. all_in (S (f x)) (map f xs) h.0 (f y) (In-map f y xs i)),
  map_successive S f xs h.1,
)

-- std's word for being in a list, and permutations

pub In-Contains : {X : Type 0} (x : X) (xs : List X) → In x xs → Contains xs x
In-Contains x [] h = absurd h
In-Contains x (y ∷ xs) h =
    ⊎_elim (λ (e : x ≡ y). (0, omega arith, sym e))
    (λ i. let r = In-Contains x xs i in let lt : suc r.0 < suc (length xs) = omega (arith, r.1) in
    (suc r.0, lt, r.2)) h

pub Contains-In_at : {X : Type 0} (x : X) (xs : List X) (k : ℕ) → k < length xs → get_or xs k x ≡ x → In x xs
Contains-In_at x [] k h e = absurd (omega arith)
Contains-In_at x (y ∷ xs) zero h e = inl (sym e)
Contains-In_at x (y ∷ xs) (suc k) h e = inr (Contains-In_at x xs k (omega arith) e)

pub In-permutation : {X : Type 0} (xs ys : List X) (x : X) → IsPermutation xs ys → In x xs → In x ys
In-permutation xs ys x p i = let r = Contains-permutation xs ys x p (In-Contains x xs i) in
    Contains-In_at x ys r.0 r.1 r.2
