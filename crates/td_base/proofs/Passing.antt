-- What holds of all of a list, of two lists place by place, and of what a filter keeps.
use Rattle.std.proofs.Common.{◌≡◌, ◌<◌, ◌++◌, ◌∷◌, [], List, Bool, false, not, length}
use Rattle.std.proofs.Common.{filter, refl, sym, ap, subst, arith, inl, inr}
use Rattle.std.specs.List.{AllByRecursion, AllZip}
use Rattle.std.proofs.lemmas.List.Filters.{length-filter_both}
use Rattle.td_base.specs.Lists.{In}
use Rattle.td_base.proofs.Lists.{filter_In}

pub all_append : {X : Type 0} (P : X → Type 0) (xs ys : List X) → AllByRecursion P xs → AllByRecursion P ys
    → AllByRecursion P (xs ++ ys)
all_append P [] ys h k = k
all_append P (x ∷ xs) ys h k = (h.0, all_append P xs ys h.1 k)

pub zip_weaker : {X Y : Type 0} (R S : X → Y → Type 0) (xs : List X) (ys : List Y)
    → ((x : X) (y : Y) → R x y → S x y) → AllZip R xs ys → AllZip S xs ys
zip_weaker R S [] [] f h = tt
zip_weaker R S [] (y ∷ ys) f h = absurd h
zip_weaker R S (x ∷ xs) [] f h = absurd h
zip_weaker R S (x ∷ xs) (y ∷ ys) f h = (f x y h.0, zip_weaker R S xs ys f h.1)

-- what an element of the second list is paired with
pub zip_left : {X Y : Type 0} (R : X → Y → Type 0) (xs : List X) (ys : List Y) (y : Y) → AllZip R xs ys → In y ys
    → (x : X) × In x xs × R x y
zip_left R [] [] y h i = absurd i
zip_left R [] (w ∷ ys) y h i = absurd h
zip_left R (z ∷ xs) [] y h i = absurd i
zip_left R (z ∷ xs) (w ∷ ys) y h (inl e) = (z, inl refl, subst (λ v. R z v) (sym e) h.0)
zip_left R (z ∷ xs) (w ∷ ys) y h (inr i) = let r = zip_left R xs ys y h.1 i in (r.0, inr r.1, r.2)

some_in : {X : Type 0} (x : X) (xs : List X) → In x xs → 0 < length xs
some_in x [] i = absurd i
some_in x (y ∷ xs) i = omega arith

-- what does not pass is not kept
pub filter_fewer : {X : Type 0} (test : X → Bool) (x : X) (xs : List X) → In x xs → test x ≡ false
    → length (filter test xs) < length xs
filter_fewer {X} test x xs i e =
    let fails : X → Bool = λ (y : X). not (test y) in
    let some = some_in x (filter fails xs) (filter_In fails x xs i (ap not e)) in
    omega (arith, some, length-filter_both test fails (λ y. refl) xs)
