-- A list that is gone through from its first element on.
use Rattle.std.specs.Prelude.{◌≡◌, ℕ, zero, suc, List, [], ◌∷◌}

-- the first so many elements have become what R says of them, and the others are as they were
abbrev pub SoFar : {X : Type 0} → (X → X → Type 0) → ℕ → List X → List X → Type 0
SoFar R zero old new = new ≡ old
SoFar R (suc i) [] [] = Unit {0}
SoFar R (suc i) [] (y ∷ new) = ⊥
SoFar R (suc i) (x ∷ old) [] = ⊥
SoFar R (suc i) (x ∷ old) (y ∷ new) = R x y × SoFar R i old new
