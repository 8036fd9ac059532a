-- Lists: what is in one, and at which place, what holds of each element and each that follows it, what stands before
-- what, and lists with elements left out or put in.
use Rattle.std.specs.Prelude.{◌≡◌, ◌⊎◌, ◌-◌, ◌==◌, ℕ, List, [], ◌∷◌, ◌++◌, Option, None, if◌then◌else◌}
use Rattle.std.specs.List.{AllByRecursion, slice_get}

abbrev pub In : {X : Type 0} → X → List X → Type 0
In x [] = ⊥
In x (y ∷ ys) = (x ≡ y) ⊎ In x ys

-- R holds of each element and each that follows it
abbrev pub Successive : {X : Type 0} → (X → X → Type 0) → List X → Type 0
Successive R [] = Unit {0}
Successive R (x ∷ xs) = AllByRecursion (R x) xs × Successive R xs

-- x stands in the list, and y somewhere behind it
abbrev pub StandsBefore : {X : Type 0} → X → X → List X → Type 0
StandsBefore x y [] = ⊥
StandsBefore x y (z ∷ zs) = ((x ≡ z) × In y zs) ⊎ StandsBefore x y zs

-- the k-th of a list, counted from 1
abbrev pub kth : {X : Type 0} → ℕ → List X → Option X
kth k xs = if k == 0 then None else slice_get xs (k - 1)

-- the first list is the second with some elements left out
pub data IsSublist {X : Type 0} : List X → List X → Type 0 where
  done : IsSublist [] []
  kept : {xs ys : List X} → (x : X) → IsSublist xs ys → IsSublist (x ∷ xs) (x ∷ ys)
  left_out : {xs ys : List X} → (y : X) → IsSublist xs ys → IsSublist xs (y ∷ ys)

-- `all` is the list with xs put in at one place, next to each other
pub record IsSpliced {X : Type 0} (xs list all : List X) : Type 0 where
  pub front : List X
  pub back : List X
  pub was : list ≡ front ++ back
  pub is : all ≡ front ++ (xs ++ back)
