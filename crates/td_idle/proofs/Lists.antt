-- Places in lists, turned lists, and what all elements so far pass.
use Rattle.std.proofs.Common.{◌≡◌, ◌<◌, ◌+◌, ◌-◌, ℕ, zero, suc, List, [], ◌∷◌, ◌++◌, Bool, true, false, ◌&&◌}
use Rattle.std.proofs.Common.{if◌then◌else◌, length, take, drop, filter, map, Some, refl, sym, ap, ◌∙◌, subst}
use Rattle.std.proofs.Common.{inl, inr, ⊎_elim, get_or, true≢false, add-one, append_assoc, arith}
use Rattle.std.proofs.lemmas.List.{reverse-reverse, reverse-append}
use Rattle.std.proofs.lemmas.List.Sorted.{IsPermutation-reverse}
use Rattle.std.specs.Prelude.{reverse}
use Rattle.std.proofs.lemmas.Bool.{and_parts, and_from}
use Rattle.std.proofs.lemmas.List.Folds.{list_all-append, list_all_more}
use Rattle.std.proofs.lemmas.Option.{none-some, same_Some}
use Rattle.std.specs.Prelude.{slice_get, IfSome}
use Rattle.std.specs.List.{list_all}
use Rattle.td_base.specs.Lists.{In, Successive}
use Rattle.td_base.proofs.Lists.{Contains-In_at, In-append, In-permutation, all_in, all_of}
use Rattle.td_base.proofs.Searches.{each_passes, filter_none}

-- ---- places

-- a list, cut at one of its places
pub record IsCut {X : Type 0} (xs : List X) (k : ℕ) (x : X) : Type 0 where
  pub is : xs ≡ take k xs ++ x ∷ drop (suc k) xs
  pub front : take (k + 1) xs ≡ take k xs ++ x ∷ []
  pub back : drop k xs ≡ x ∷ drop (suc k) xs

pub cut : {X : Type 0} (xs : List X) (k : ℕ) (x : X) → slice_get xs k ≡ Some x → IsCut xs k x
cut xs k x e =
    let p = at xs k x e in
    record { is = p.0; front = ap (λ (n : ℕ). take n xs) (add-one k) ∙ p.1; back = p.2 }
  where
    at : {X : Type 0} (xs : List X) (k : ℕ) (x : X) → slice_get xs k ≡ Some x
        → (xs ≡ take k xs ++ x ∷ drop (suc k) xs) × (take (suc k) xs ≡ take k xs ++ x ∷ [])
        × (drop k xs ≡ x ∷ drop (suc k) xs)
    at [] k x e = absurd (none-some x e)
    at (y ∷ xs) zero x e = let s = same_Some y x e in ((λ i. s i ∷ xs), (λ i. s i ∷ []), (λ i. s i ∷ xs))
    at (y ∷ xs) (suc k) x e = let p = at xs k x e in ((λ i. y ∷ p.0 i), (λ i. y ∷ p.1 i), p.2)

-- the first of some elements, and those behind it
pub taken_first : {X : Type 0} (x : X) (xs : List X) (n : ℕ) → 0 < n → In x (take n (x ∷ xs))
taken_first x xs zero l = absurd (omega arith)
taken_first x xs (suc n) l = inl refl

pub taken_later : {X : Type 0} (y x : X) (xs : List X) (n k : ℕ) → 0 < n → k ≡ n - 1 → In y (take k xs)
    → In y (take n (x ∷ xs))
taken_later y x xs zero k l e i = absurd (omega arith)
taken_later y x xs (suc n) k l e i =
    let less : k ≡ n = omega (arith, e) in inr (subst (λ (j : ℕ). In y (take j xs)) less i)

-- what a mapped list has at a place
pub mapped_at : {X Y : Type 0} (f : X → Y) (xs : List X) (k : ℕ) (y : Y) → k < length (map f xs)
    → y ≡ get_or (map f xs) k y → (x : X) × (slice_get xs k ≡ Some x) × (y ≡ f x)
mapped_at f [] k y l e = absurd (omega arith)
mapped_at f (x ∷ xs) zero y l e = (x, refl, e)
mapped_at f (x ∷ xs) (suc k) y l e = mapped_at f xs k y (omega arith) e

pub take_next : {X : Type 0} (k : ℕ) (xs : List X) (x : X) → k < length xs → x ≡ get_or xs k x
    → take (k + 1) xs ≡ take k xs ++ x ∷ []
take_next k xs x h e = ap (λ (n : ℕ). take n xs) (add-one k) ∙ more k xs h e
  where
    more : {X : Type 0} {x : X} (k : ℕ) (xs : List X) → k < length xs → x ≡ get_or xs k x
        → take (suc k) xs ≡ take k xs ++ x ∷ []
    more k [] h e = absurd (omega arith)
    more zero (y ∷ xs) h e = λ i. sym e i ∷ []
    more (suc k) (y ∷ xs) h e = ap (λ z. y ∷ z) (more k xs (omega arith) e)

pub get_behind : {X : Type 0} (xs ys : List X) → slice_get (xs ++ ys) (length xs) ≡ slice_get ys 0
get_behind [] ys = refl
get_behind (x ∷ xs) ys = get_behind xs ys

-- ---- turned lists

pub in_turned : {X : Type 0} (x : X) (xs : List X) → In x xs → In x (reverse xs)
in_turned x xs i = In-permutation xs (reverse xs) x (IsPermutation-reverse xs) i

pub from_turned : {X : Type 0} (x : X) (xs : List X) → In x (reverse xs) → In x xs
from_turned x xs i = subst (λ z. In x z) (reverse-reverse xs) (in_turned x (reverse xs) i)

-- a list turned around one of its elements
pub turned_round : {X : Type 0} (front : List X) (x : X) (back : List X)
    → reverse (front ++ x ∷ back) ≡ reverse back ++ x ∷ reverse front
turned_round front x back =
    reverse-append front (x ∷ back)
    ∙ (ap (λ z. z ++ reverse front) (reverse-append (x ∷ []) back)
    ∙ append_assoc (reverse back) (x ∷ []) (reverse front))

pub turned_back : {X : Type 0} (xs front : List X) (x : X) (back : List X) → reverse xs ≡ front ++ x ∷ back
    → xs ≡ reverse back ++ x ∷ reverse front
turned_back xs front x back e = sym (reverse-reverse xs) ∙ (ap reverse e ∙ turned_round front x back)

successive_snoc : {X : Type 0} (R : X → X → Type 0) (xs : List X) (x : X) → Successive R xs
    → ((y : X) → In y xs → R y x) → Successive R (xs ++ x ∷ [])
successive_snoc R [] x s h = (tt, tt)
successive_snoc {X} R (y ∷ ys) x s h = (
  all_of (R y) (ys ++ x ∷ [])
      (λ z i. ⊎_elim (λ (j : In z ys). all_in (R y) ys s.0 z j) (λ (j : In z (x ∷ [])). last z j)
      (In-append z ys (x ∷ []) i)),
  successive_snoc R ys x s.1 (λ z i. h z (inr i)),
)
  where
    last : (z : X) → In z (x ∷ []) → R y z
    last z (inl e) = subst (R y) (sym e) (h y (inl refl))
    last z (inr i) = absurd i

pub successive_turned : {X : Type 0} (R : X → X → Type 0) (xs : List X) → Successive R xs
    → Successive (λ (x y : X). R y x) (reverse xs)
successive_turned R [] s = tt
successive_turned {X} R (x ∷ xs) s =
    subst (Successive (λ (a b : X). R b a)) (sym (reverse-append (x ∷ []) xs))
    (successive_snoc (λ (a b : X). R b a) (reverse xs) x (successive_turned R xs s.1)
    (λ y i. all_in (R x) xs s.0 y (from_turned y xs i)))

-- ---- those that pass come first

pub first_pass : {X : Type 0} (test : X → Bool) (xs : List X)
    → Successive (λ (y z : X). test z ≡ true → test y ≡ true) xs → (x : X)
    → In x (take (length (filter test xs)) xs) → test x ≡ true
first_pass test [] s x i = absurd i
first_pass {X} test (y ∷ ys) s x i = at (test y) refl (first_pass test ys s.1 x) i
  where
    fails : (z : X) → In z ys → test y ≡ false → (b : Bool) → test z ≡ b → b ≡ false
    fails z k e false f = refl
    fails z k e true f =
        absurd (true≢false (sym (all_in (λ (u : X). test u ≡ true → test y ≡ true) ys s.0 z k f) ∙ e))

    at : (b : Bool) → test y ≡ b → (In x (take (length (filter test ys)) ys) → test x ≡ true)
        → In x (take (length (if b then y ∷ filter test ys else filter test ys)) (y ∷ ys)) → test x ≡ true
    at true e ih (inl h) = ap test h ∙ e
    at true e ih (inr j) = ih j
    at false e ih j =
        absurd (subst (λ (z : List X). In x (take (length z) (y ∷ ys)))
        (filter_none test ys (λ z k. fails z k e (test z) refl)) j)

-- ---- all so far

pub one_fails : {X : Type 0} (test : X → Bool) (xs : List X) → list_all test xs ≡ false → (x : X) × In x xs
    × (test x ≡ false)
one_fails test [] h = absurd cc
one_fails {X} test (x ∷ xs) h = at (test x) refl (λ k. one_fails test xs k) h
  where
    at : (b : Bool) → test x ≡ b → (list_all test xs ≡ false → (y : X) × In y xs × (test y ≡ false))
        → (b && list_all test xs) ≡ false → (y : X) × In y (x ∷ xs) × (test y ≡ false)
    at false e ih h = (x, inl refl, e)
    at true e ih h = let f = ih h in (f.0, inr f.1, f.2)

pub all_fails : {X : Type 0} (test : X → Bool) (xs : List X) (k : ℕ) (b : Bool) → k < length xs
    → IfSome (slice_get xs k) (λ x. b ≡ test x) → b ≡ false
    → list_all test xs ≡ false
all_fails test [] k b l h e = absurd (omega arith)
all_fails test (x ∷ xs) zero b l h e = (λ i. (sym h ∙ e) i && list_all test xs)
all_fails test (x ∷ xs) (suc k) b l h e = ap (λ (c : Bool). test x && c) (all_fails test xs k b (omega arith) h e)
    ∙ and_false (test x)
  where
    and_false : (c : Bool) → (c && false) ≡ false
    and_false true = refl
    and_false false = refl

pub all_next : {X : Type 0} (test : X → Bool) (xs : List X) (k : ℕ) (b : Bool) → k < length xs
    → IfSome (slice_get xs k) (λ x. b ≡ test x) → b ≡ true
    → list_all test (take k xs) ≡ true → list_all test (take (k + 1) xs) ≡ true
all_next test xs k b l h e so = ap (λ (n : ℕ). list_all test (take n xs)) (add-one k) ∙ at test xs k b l h e so
  where
    at : {X : Type 0} (test : X → Bool) (xs : List X) (k : ℕ) (b : Bool) → k < length xs
        → IfSome (slice_get xs k) (λ x. b ≡ test x) → b ≡ true
        → list_all test (take k xs) ≡ true → list_all test (take (suc k) xs) ≡ true
    at test [] k b l h e so = absurd (omega arith)
    at test (x ∷ xs) zero b l h e so = and_from (test x) true (sym h ∙ e) refl
    at test (x ∷ xs) (suc k) b l h e so =
        let p = and_parts (test x) (list_all test (take k xs)) so in
        and_from (test x) (list_all test (take (suc k) xs)) p.0 (at test xs k b (omega arith) h e p.1)

-- all of a front and one more
pub all_front : {X : Type 0} (test : X → Bool) (xs : List X) (k : ℕ) (x : X) (b : Bool) → slice_get xs k ≡ Some x → b
    ≡ test x
    → (list_all test (take k xs) && b) ≡ list_all test (take (k + 1) xs)
all_front test xs k x b e is =
    ap (λ (c : Bool). list_all test (take k xs) && c) (is ∙ and_true (test x))
    ∙ (sym (list_all-append test (take k xs) (x ∷ [])) ∙ ap (list_all test) (sym (cut xs k x e).front))
  where
    and_true : (c : Bool) → c ≡ (c && true)
    and_true true = refl
    and_true false = refl

-- ---- the same, where an element is read by its place

pub next_passes : {X : Type 0} (test : X → Bool) (xs : List X) (k : ℕ) (x : X) → k < length xs → x ≡ get_or xs k x
    → test x ≡ true
    → list_all test (take k xs) ≡ true → list_all test (take (k + 1) xs) ≡ true
next_passes test xs k x l e t h = list_all_more test xs k x l ∙ (λ i. h i && (ap test (sym e) ∙ t) i)

pub one_failed : {X : Type 0} (test : X → Bool) (xs : List X) (k : ℕ) (x : X) → k < length xs → x ≡ get_or xs k x
    → test x ≡ false
    → list_all test xs ≡ false
one_failed test xs k x l e f = by (list_all test xs) refl
  where
    by : (b : Bool) → list_all test xs ≡ b → b ≡ false
    by false h = refl
    by true h = absurd (true≢false (sym (each_passes test xs h x (Contains-In_at x xs k l (sym e))) ∙ f))
