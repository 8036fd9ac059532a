-- What is found in a list, what passes a test, and what a filter keeps.
use Rattle.std.proofs.Common.{◌≡◌, ◌≤◌, ℕ, List, [], ◌∷◌, ◌++◌, Bool, true, false, ◌&&◌, ◌||◌, ◌+◌, zero, suc, cond}
use Rattle.std.proofs.Common.{not, map, filter, length, take, drop, nat_lt, Option, Some, None, refl, sym, ap, ◌∙◌}
use Rattle.std.proofs.Common.{subst, inl, inr, ⊎_elim, true≢false, arith, take-append-drop}
use Rattle.std.proofs.lemmas.Bool.{and_from, and_parts, or_right}
use Rattle.std.proofs.lemmas.Bool.Decides.{nat_tests}
use Rattle.std.proofs.lemmas.List.Elements.{All-from_recursion, filter-append}
use Rattle.std.proofs.lemmas.List.Sums.{prefix_len-le-length}
use Rattle.std.specs.Prelude.{find, is_some, unwrap_or}
use Rattle.std.specs.List.{list_any, list_all, position, position_or_len}
use Rattle.std.specs.List.Sorted.{IsPartitionedBy}
use Rattle.td_base.specs.Lists.{In, Successive}
use Rattle.td_base.proofs.Lists.{In-front, In-back, all_in}
use Rattle.std.proofs.lemmas.Map.Entries.{option_filter}

-- what a search finds

find_In_at : {X : Type 0} (test : X → Bool) (y : X) (ys : List X) (b : Bool) (x : X) → test y ≡ b
    → (find test ys ≡ Some x → In x ys × (test x ≡ true)) → cond b (Some y) (find test ys) ≡ Some x → In x (y ∷ ys)
    × (test x ≡ true)
find_In_at test y ys true x t rest e = let p : y ≡ x = cc in (inl (sym p), subst (λ z. test z ≡ true) p t)
find_In_at test y ys false x t rest e = let r = rest e in (inr r.0, r.1)

pub find_In : {X : Type 0} (test : X → Bool) (xs : List X) (x : X) → find test xs ≡ Some x → In x xs × (test x ≡ true)
find_In test [] x e = absurd (cc)
find_In test (y ∷ ys) x e = find_In_at test y ys (test y) x refl (find_In test ys x) e

find_none_at : {X : Type 0} (test : X → Bool) (y : X) (ys : List X) (b : Bool) (x : X) → test y ≡ b
    → (find test ys ≡ None → In x ys → test x ≡ false) → cond b (Some y) (find test ys) ≡ None → In x (y ∷ ys)
    → test x ≡ false
find_none_at test y ys true x t rest e i = absurd (cc)
find_none_at test y ys false x t rest e i = ⊎_elim (λ (p : x ≡ y). subst (λ z. test z ≡ false) (sym p) t)
    (λ k. rest e k) i

pub find_none : {X : Type 0} (test : X → Bool) (xs : List X) (x : X) → find test xs ≡ None → In x xs → test x ≡ false
find_none test [] x e i = absurd i
find_none test (y ∷ ys) x e i = find_none_at test y ys (test y) x refl (find_none test ys x) e i

find_at : {X : Type 0} (test : X → Bool) (y a : X) (ys : List X) (b : Bool) → test y ≡ b → In a (y ∷ ys) → test a
    ≡ true → (test y ≡ true → y ≡ a) → (In a ys → find test ys ≡ Some a) → cond b (Some y) (find test ys) ≡ Some a
find_at test y a ys true h i p one ih = ap Some (one h)
find_at test y a ys false h i p one ih = ih (⊎_elim (λ (e : a ≡ y). absurd (true≢false (sym p ∙ (ap test e ∙ h))))
    (λ k. k) i)

-- the one element that passes is found
pub find_one : {X : Type 0} (test : X → Bool) (xs : List X) (a : X) → In a xs → test a ≡ true
    → ((b : X) → In b xs → test b ≡ true → b ≡ a) → find test xs ≡ Some a
find_one test [] a i p one = absurd i
find_one test (y ∷ ys) a i p one = find_at test y a ys (test y) refl i p (λ q. one y (inl refl) q)
    (λ k. find_one test ys a k p (λ b j q. one b (inr j) q))

place_of_position : (k n : ℕ) → k ≤ n → unwrap_or (cond (nat_lt k n) (Some k) None) n ≡ k
place_of_position k n h = grind (arith, nat_tests)

pub first_or_length : {X : Type 0} (test : X → Bool) (xs : List X) → unwrap_or (position test xs) (length xs)
    ≡ position_or_len test xs
first_or_length {X = X} test xs = place_of_position (position_or_len test xs) (length xs)
    (prefix_len-le-length (λ (x : X). not (test x)) xs)

some_if : {X : Type 0} (b : Bool) (x : X) → is_some (cond b (Some x) None) ≡ b
some_if true x = refl
some_if false x = refl

position_of_find_at : {X : Type 0} (x : X) (k n : ℕ) (b : Bool) (o : Option X) → nat_lt k n ≡ is_some o
    → nat_lt (cond (not b) (1 + k) 0) (suc n) ≡ is_some (cond b (Some x) o)
position_of_find_at x k n true o h = grind (arith, nat_tests)
position_of_find_at x k n false o h = grind (arith, nat_tests)

find_below : {X : Type 0} (test : X → Bool) (xs : List X) → nat_lt (position_or_len test xs) (length xs)
    ≡ is_some (find test xs)
find_below test [] = refl
find_below test (x ∷ xs) = position_of_find_at x (position_or_len test xs) (length xs) (test x) (find test xs)
    (find_below test xs)

-- there is a place exactly where something is found
pub position_of_find : {X : Type 0} (test : X → Bool) (xs : List X) → is_some (position test xs)
    ≡ is_some (find test xs)
position_of_find test xs = some_if (nat_lt (position_or_len test xs) (length xs)) (position_or_len test xs)
    ∙ find_below test xs

-- what passes a test

pub each_passes : {X : Type 0} (test : X → Bool) (xs : List X) → list_all test xs ≡ true → (x : X) → In x xs → test x
    ≡ true
each_passes test [] h x i = absurd i
each_passes test (y ∷ ys) h x i =
    let p = and_parts (test y) (list_all test ys) h in
    ⊎_elim (λ (e : x ≡ y). subst (λ z. test z ≡ true) (sym e) p.0) (λ k. each_passes test ys p.1 x k) i

pub all_pass : {X : Type 0} (test : X → Bool) (xs : List X) → ((x : X) → In x xs → test x ≡ true)
    → list_all test xs ≡ true
all_pass test [] h = refl
all_pass test (x ∷ xs) h =
    and_from (test x) (list_all test xs) (h x (inl refl)) (all_pass test xs (λ y i. h y (inr i)))

-- where what stands before an element that passes passes, those that pass stand first
pub passing_first : {X : Type 0} (test : X → Bool) (xs : List X)
    → Successive (λ (x y : X). test y ≡ true → test x ≡ true) xs → IsPartitionedBy test xs
passing_first test [] s i j d le lt h = absurd (omega arith)
passing_first test (x ∷ xs) s zero zero d le lt h = h
passing_first {X} test (x ∷ xs) s zero (suc j) d le lt h =
    All-from_recursion (λ (y : X). test y ≡ true → test x ≡ true) xs s.0 j d (omega arith) h
passing_first test (x ∷ xs) s (suc i) zero d le lt h = absurd (omega arith)
passing_first test (x ∷ xs) s (suc i) (suc j) d le lt h =
    passing_first test xs s.1 i j d (omega arith) (omega arith) h

-- nothing is found where nothing passes

pub find_nothing : {X : Type 0} (p : X → Bool) (xs : List X) → ((x : X) → In x xs → p x ≡ false) → find p xs ≡ None
find_nothing p [] h = refl
find_nothing p (x ∷ xs) h = λ i. cond (h x (inl refl) i) (Some x) (find_nothing p xs (λ y j. h y (inr j)) i)

both_at : {X : Type 0} (q : X → Bool) (x : X) (a b : Bool) (found one : Option X) → q x ≡ b → (a ≡ true → found ≡ None)
    → found ≡ option_filter q one → cond (a && b) (Some x) found ≡ option_filter q (cond a (Some x) one)
both_at q x true true found one e none ih = λ i. cond (sym e i) (Some x) None
both_at q x true false found one e none ih = none refl ∙ (λ i. cond (sym e i) (Some x) None)
both_at q x false b found one e none ih = ih

-- a test that is two, the first of which one element passes at most
pub find_both : {X : Type 0} (p q r : X → Bool) (xs : List X) → ((x : X) → In x xs → r x ≡ (p x && q x))
    → Successive (λ (x y : X). p x ≡ true → p y ≡ false) xs → find r xs ≡ option_filter q (find p xs)
find_both p q r [] same one = refl
find_both {X} p q r (x ∷ xs) same one =
    ap (λ (b : Bool). cond b (Some x) (find r xs)) (same x (inl refl))
    ∙ both_at q x (p x) (q x) (find r xs) (find p xs) refl
    (λ e. find_nothing r xs
    (λ y i. same y (inr i) ∙ ap (λ (b : Bool). b && q y) (all_in (λ (y : X). p x ≡ true → p y ≡ false) xs one.0 y i e)))
    (find_both p q r xs (λ y i. same y (inr i)) one.1)

-- a filter, and what it keeps, through a map

filter_map_at : {X Y : Type 0} (f : X → Y) (test : Y → Bool) (x : X) (xs : List X) (b : Bool) → filter test (map f xs)
    ≡ map f (filter (λ z. test (f z)) xs) → cond b (f x ∷ filter test (map f xs)) (filter test (map f xs))
    ≡ map f (cond b (x ∷ filter (λ z. test (f z)) xs) (filter (λ z. test (f z)) xs))
filter_map_at f test x xs true h = ap (λ z. f x ∷ z) h
filter_map_at f test x xs false h = h

pub filter_mapped : {X Y : Type 0} (f : X → Y) (test : Y → Bool) (xs : List X) → filter test (map f xs)
    ≡ map f (filter (λ z. test (f z)) xs)
filter_mapped f test [] = refl
filter_mapped f test (x ∷ xs) = filter_map_at f test x xs (test (f x)) (filter_mapped f test xs)

kept_at : {X Y : Type 0} (f g : X → Y) (x : X) (b : Bool) (xs ys : List X) → f x ≡ g x → map f xs ≡ map g ys
    → map f (cond b (x ∷ xs) xs) ≡ map g (cond b (x ∷ ys) ys)
kept_at f g x true xs ys e h = λ i. e i ∷ h i
kept_at f g x false xs ys e h = h

-- two tests and two functions that agree on a list
pub same_kept : {X Y : Type 0} (f g : X → Y) (p q : X → Bool) (xs : List X) → ((x : X) → In x xs → f x ≡ g x)
    → ((x : X) → In x xs → p x ≡ q x) → map f (filter p xs) ≡ map g (filter q xs)
same_kept f g p q [] e h = refl
same_kept f g p q (x ∷ xs) e h =
    ap (λ b. map f (cond b (x ∷ filter p xs) (filter p xs))) (h x (inl refl))
    ∙ kept_at f g x (q x) (filter p xs) (filter q xs) (e x (inl refl))
    (same_kept f g p q xs (λ y i. e y (inr i)) (λ y i. h y (inr i)))

-- a part of a list

pub In-take : {X : Type 0} (x : X) (k : ℕ) (xs : List X) → In x (take k xs) → In x xs
In-take x k xs i = subst (λ z. In x z) (take-append-drop k xs) (In-front x (take k xs) (drop k xs) i)

pub In-drop : {X : Type 0} (x : X) (k : ℕ) (xs : List X) → In x (drop k xs) → In x xs
In-drop x k xs i = subst (λ z. In x z) (take-append-drop k xs) (In-back x (take k xs) (drop k xs) i)

-- what a filter keeps of all, of none, and of parts

filter_all_at : {X : Type 0} (test : X → Bool) (x : X) (xs : List X) → test x ≡ true → filter test xs ≡ xs
    → filter test (x ∷ xs) ≡ x ∷ xs
filter_all_at test x xs e ih = ap (λ b. cond b (x ∷ filter test xs) (filter test xs)) e ∙ ap (λ q. x ∷ q) ih

pub filter_all : {X : Type 0} (test : X → Bool) (xs : List X) → ((x : X) → In x xs → test x ≡ true) → filter test xs
    ≡ xs
filter_all test [] h = refl
filter_all test (x ∷ xs) h = filter_all_at test x xs (h x (inl refl)) (filter_all test xs (λ y i. h y (inr i)))

filter_none_at : {X : Type 0} (test : X → Bool) (x : X) (xs : List X) → test x ≡ false → filter test xs ≡ []
    → filter test (x ∷ xs) ≡ []
filter_none_at test x xs e ih = ap (λ b. cond b (x ∷ filter test xs) (filter test xs)) e ∙ ih

pub filter_none : {X : Type 0} (test : X → Bool) (xs : List X) → ((x : X) → In x xs → test x ≡ false) → filter test xs
    ≡ []
filter_none test [] h = refl
filter_none test (x ∷ xs) h = filter_none_at test x xs (h x (inl refl)) (filter_none test xs (λ y i. h y (inr i)))

pub filter_parts : {X : Type 0} (test : X → Bool) (xs ys zs : List X) → filter test (xs ++ ys ++ zs) ≡ filter test xs
    ++ filter test ys ++ filter test zs
filter_parts test xs ys zs = filter-append test (xs ++ ys) zs ∙ ap (λ q. q ++ filter test zs) (filter-append test xs ys)

-- what passes a test among what a filter keeps

find_among_at : {X : Type 0} (kept test : X → Bool) (x : X) (xs : List X) (a b : Bool)
    → list_any (λ (y : X). kept y && test y) xs ≡ is_some (find test (filter kept xs)) → test x ≡ b
    → ((a && b) || list_any (λ (y : X). kept y && test y) xs)
    ≡ is_some (find test (cond a (x ∷ filter kept xs) (filter kept xs)))
find_among_at kept test x xs true true h is = ap
    (λ (b : Bool). is_some (cond b (Some x) (find test (filter kept xs)))) (sym is)
find_among_at kept test x xs true false h is = h
    ∙ ap (λ (b : Bool). is_some (cond b (Some x) (find test (filter kept xs)))) (sym is)
find_among_at kept test x xs false b h is = h

-- whether one of those kept passes the test
pub find_among : {X : Type 0} (kept test : X → Bool) (xs : List X) → list_any (λ (x : X). kept x && test x) xs
    ≡ is_some (find test (filter kept xs))
find_among kept test [] = refl
find_among kept test (x ∷ xs) = find_among_at kept test x xs (kept x) (test x) (find_among kept test xs) refl

all_at : {X : Type 0} (kept test : X → Bool) (x : X) (xs : List X) (a : Bool)
    → list_all (λ (y : X). not (kept y) || test y) xs ≡ list_all test (filter kept xs)
    → ((not a || test x) && list_all (λ (y : X). not (kept y) || test y) xs)
    ≡ list_all test (cond a (x ∷ filter kept xs) (filter kept xs))
all_at kept test x xs true h = ap (λ (b : Bool). test x && b) h
all_at kept test x xs false h = h

-- whether all of those kept pass it
pub all_among : {X : Type 0} (kept test : X → Bool) (xs : List X) → list_all (λ (x : X). not (kept x) || test x) xs
    ≡ list_all test (filter kept xs)
all_among kept test [] = refl
all_among kept test (x ∷ xs) = all_at kept test x xs (kept x) (all_among kept test xs)

-- whether one passes, of a list with one more

pub any_false : {X : Type 0} (test : X → Bool) (x : X) → test x ≡ false → list_any test (x ∷ []) ≡ false
any_false test x h = ap (λ b. b || false) h

pub any_snoc : {X : Type 0} (test : X → Bool) (xs : List X) (x : X) → test x ≡ false → list_any test (xs ++ (x ∷ []))
    ≡ list_any test xs
any_snoc test [] x h = any_false test x h
any_snoc test (y ∷ ys) x h = ap (λ b. test y || b) (any_snoc test ys x h)

pub any_last : {X : Type 0} (test : X → Bool) (xs : List X) (x : X) → test x ≡ true → list_any test (xs ++ (x ∷ []))
    ≡ true
any_last test [] x h = ap (λ b. b || false) h
any_last test (y ∷ ys) x h = or_right (test y) (list_any test (ys ++ (x ∷ []))) (any_last test ys x h)
