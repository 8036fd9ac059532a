-- Lists in ramps: of elements that go on from one another the first is kept, with its place.
use Rattle.std.specs.Prelude.{◌≡◌, ◌<◌, ◌+◌, ◌-◌, ◌≤◌, ◌^◌, ◌++◌, ℕ, zero, suc, List, [], ◌∷◌}
use Rattle.td_history.specs.declared.ramps.Ramp.{Ramp}

-- what contracts see: the elements, and for how many more there is room
pub record RampsValue (X : Type 0) : Type 0 where
  pub items : List X
  pub room : ℕ

module _ {X : Type 0} where
  -- where the first of these ramps begins, among so many elements
  abbrev pub first_start : List (Ramp X) → ℕ → ℕ
  first_start [] end = end
  first_start (r ∷ ramps) end = r.start

  -- the ramps stand one behind another from a place on, up to so many elements, and none is empty
  abbrev pub AreRampsFrom : ℕ → List (Ramp X) → ℕ → Type 0
  AreRampsFrom at [] end = at ≡ end
  AreRampsFrom at (r ∷ ramps) end =
      (r.start ≡ at) × (at < first_start ramps end) × AreRampsFrom (first_start ramps end) ramps end

  pub record AreRamps (list : List (Ramp X)) (len capacity end room : ℕ) : Type 0 where
    pub ramps : AreRampsFrom 0 list end
    pub ramps_room : len + room ≤ capacity
    pub few : end + room < 2 ^ 32

-- by what stands so far behind an element
module _ {X : Type 0} (on : ℕ → X → X) where
  -- so many elements of a ramp
  abbrev pub ramp_of : X → ℕ → List X
  ramp_of first zero = []
  ramp_of first (suc n) = ramp_of first n ++ on n first ∷ []

  -- the elements of the ramps, up to so many
  abbrev pub items_in : List (Ramp X) → ℕ → List X
  items_in [] end = []
  items_in (r ∷ ramps) end = ramp_of r.first (first_start ramps end - r.start) ++ items_in ramps end

  -- the element is the next one of the last ramp
  abbrev pub IsNextOfRamp : List (Ramp X) → ℕ → X → Type 0
  IsNextOfRamp [] end item = ⊥
  IsNextOfRamp (r ∷ []) end item = on (end - r.start) r.first ≡ item
  IsNextOfRamp (r ∷ s ∷ ramps) end item = IsNextOfRamp (s ∷ ramps) end item
