-- What a screen hears.
use Rattle.std.specs.Prelude.{ℕ, List, [], ◌∷◌}
use Rattle.td_op.specs.declared.change.Change.{Change}
use Rattle.td_op.specs.Change.{CanChange, changed}

-- the index of the change is in range of the atoms that the screen shows
pub record IsInRange {T : Type 0} (shows : T → List (List ℕ) → Type 0) (screen : T) (change : Change) : Type 0 where
  pub atoms : List (List ℕ)
  pub shown : shows screen atoms
  pub fits : CanChange change atoms

-- what becomes of a screen that hears of these changes, the first first
abbrev pub hear_all : {T : Type 0} → (T → Change → T) → List Change → T → T
hear_all heard [] screen = screen
hear_all heard (change ∷ changes) screen = hear_all heard changes (heard screen change)

-- what becomes of the atoms shown by these changes
abbrev pub changed_all : List Change → List (List ℕ) → List (List ℕ)
changed_all changes atoms = hear_all (λ (shown : List (List ℕ)) (change : Change). changed change shown) changes atoms
