-- Choices, options, and the elements of a list.
use Rattle.std.proofs.Common.{map, length, take, drop, ap, ◌∙◌, arith, length-append, append-nil, append_assoc}
use Rattle.std.proofs.Common.{take-append-drop, ◌≡◌, ℕ, zero, suc, List, [], ◌∷◌, ◌++◌, Bool, true, false, Option}
use Rattle.std.proofs.Common.{Some, None, refl, sym, subst, inl, inr, true≢false, if◌then◌else◌, ◌<◌}
use Rattle.std.specs.Prelude.{slice_get, remove}
use Rattle.std.specs.List.{insert_slice, drop-map}
use Rattle.std.proofs.lemmas.List.{take_at, drop_at, map-append}
use Rattle.std.specs.Option.{is_some}
use Rattle.std.proofs.lemmas.Option.{same_Some}
use Rattle.td_base.specs.Lists.{In, Successive}
use Rattle.td_base.proofs.Lists.{all_in, all_of}

-- a choice has what both sides have under their tests
pub either : {X : Type 0} (P : X → Type 0) (b : Bool) (x y : X) → (b ≡ true → P x) → (b ≡ false → P y)
    → P (if b then x else y)
either P true x y f g = f refl
either P false x y f g = g refl

-- what an option has that has something
pub some_of : {X : Type 0} (o : Option X) → is_some o ≡ true → (x : X) × (o ≡ Some x)
some_of None h = absurd (true≢false (sym h))
some_of (Some x) h = (x, refl)

-- what stands at an index is in the list
pub In-slice_get : {X : Type 0} (xs : List X) (i : ℕ) (x : X) → slice_get xs i ≡ Some x → In x xs
In-slice_get [] i x e = absurd cc
In-slice_get (y ∷ xs) zero x e = inl (same_Some x y (sym e))
In-slice_get (y ∷ xs) (suc i) x e = inr (In-slice_get xs i x e)

pub In-behind : {X : Type 0} (x : X) (front : List X) (y : X) (back : List X) → In x back → In x (front ++ y ∷ back)
In-behind x [] y back i = inr i
In-behind x (z ∷ front) y back i = inr (In-behind x front y back i)

-- where an element stands
pub record CutAt {X : Type 0} (x : X) (xs : List X) : Type 0 where
  pub front : List X
  pub back : List X
  pub is : xs ≡ front ++ x ∷ back

pub cut_at : {X : Type 0} (x : X) (xs : List X) → In x xs → CutAt x xs
cut_at x [] i = absurd i
cut_at x (y ∷ xs) (inl e) = record { front = []; back = xs; is = λ k. sym e k ∷ xs }
cut_at x (y ∷ xs) (inr i) =
    let s : CutAt x xs = cut_at x xs i in record { front = y ∷ s.front; back = s.back; is = λ k. y ∷ s.is k }

-- the parts of equal lists
pub same_head : {X : Type 0} (x : X) (xs : List X) (y : X) (ys : List X) → x ∷ xs ≡ y ∷ ys → x ≡ y
same_head x xs y ys e = cc

pub same_tail : {X : Type 0} (x : X) (xs : List X) (y : X) (ys : List X) → x ∷ xs ≡ y ∷ ys → xs ≡ ys
same_tail x xs y ys e = cc

-- what follows among the elements of a list from what holds of its pairs
pub successive_among : {X : Type 0} (R S : X → X → Type 0) (xs : List X)
    → ((x y : X) → In x xs → In y xs → R x y → S x y) → Successive R xs → Successive S xs
successive_among R S [] f s = tt
successive_among R S (x ∷ xs) f s = (
  all_of (S x) xs (λ y i. f x y (inl refl) (inr i) (all_in (R x) xs s.0 y i)),
  successive_among R S xs (λ y z i j. f y z (inr i) (inr j)) s.1,
)

-- what holds of one and of each of the others holds of each of all
pub one_more : {X : Type 0} (P : X → Type 0) (x : X) (xs : List X) → P x → ((y : X) → In y xs → P y)
    → (y : X) → In y (x ∷ xs) → P y
one_more P x xs h f y (inl e) = subst P (sym e) h
one_more P x xs h f y (inr i) = f y i

-- two tests that pass together are one
pub both_tests : (a b : Bool) → (a ≡ true → b ≡ true) → (b ≡ true → a ≡ true) → a ≡ b
both_tests true b h k = sym (h refl)
both_tests false true h k = k refl
both_tests false false h k = refl

-- a map that agrees with another on the list
pub map_same : {X Y : Type 0} (f g : X → Y) (xs : List X) → ((x : X) → In x xs → f x ≡ g x) → map f xs ≡ map g xs
map_same f g [] h = refl
map_same f g (x ∷ xs) h = λ i. h x (inl refl) i ∷ map_same f g xs (λ y j. h y (inr j)) i

-- a map, and a list without one of its elements

map-take : {X Y : Type 0} (f : X → Y) (xs : List X) (i : ℕ) → map f (take i xs) ≡ take i (map f xs)
map-take f xs zero = refl
map-take f [] (suc i) = refl
map-take {Y = Y} f (x ∷ xs) (suc i) = ap (λ (q : List Y). f x ∷ q) (map-take f xs i)

pub map-remove : {X Y : Type 0} (f : X → Y) (xs : List X) (i : ℕ) → map f (remove xs i) ≡ remove (map f xs) i
map-remove f xs i = map-append f (take i xs) (drop (suc i) xs)
    ∙ (λ k. map-take f xs i k ++ sym (drop-map f (suc i) xs) k)

pub remove_middle : {X : Type 0} (xs : List X) (x : X) (ys : List X) (i : ℕ) → length xs ≡ i → xs ++ ys
    ≡ remove (xs ++ x ∷ ys) i
remove_middle {X = X} xs x ys i h =
    let front : List X = xs ++ x ∷ [] in
    let so_many : length front ≡ suc i = omega (arith, length-append xs (x ∷ []), h) in
    λ k. sym (take_at xs (x ∷ ys) i h) k ++ sym (ap (drop (suc i)) (sym (append_assoc xs (x ∷ []) ys))
    ∙ drop_at front ys (suc i) so_many) k

-- nothing put anywhere
pub insert_slice_nil : {X : Type 0} (xs : List X) (i : ℕ) → insert_slice xs i [] ≡ xs
insert_slice_nil xs i = ap (λ q. q ++ drop i xs) (append-nil (take i xs)) ∙ take-append-drop i xs

-- what stands in the front

pub get_front : {X : Type 0} (xs ys : List X) (k : ℕ) → k < length xs → slice_get (xs ++ ys) k ≡ slice_get xs k
get_front [] ys k h = absurd (omega arith)
get_front (x ∷ xs) ys zero h = refl
get_front (x ∷ xs) ys (suc k) h = get_front xs ys k (omega arith)
