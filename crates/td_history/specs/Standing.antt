-- Lists whose elements stand for others.
use Rattle.std.specs.Prelude.{◌≡◌, List, Option, Some, None, length, take}
use Rattle.std.specs.List.{AllZip}

-- the elements of the one list stand for those of the other, each by what f gives
abbrev pub StandFor : {X Y : Type 0} → (X → Option Y) → List X → List Y → Type 0
StandFor f xs ys = AllZip (λ x y. f x ≡ Some y) xs ys

-- the second list is the first with some more at its end
abbrev pub IsGrown : {X : Type 0} → List X → List X → Type 0
IsGrown old new = take (length old) new ≡ old

-- both are nothing, or both something, in the relation
abbrev pub Agree : {X Y : Type 0} → (X → Y → Type 0) → Option X → Option Y → Type 0
Agree R None None = Unit {0}
Agree R None (Some y) = ⊥
Agree R (Some x) None = ⊥
Agree R (Some x) (Some y) = R x y
