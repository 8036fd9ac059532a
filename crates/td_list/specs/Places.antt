-- How a short list keeps its items: in one line, with the place of each by its name.
use Rattle.std.specs.Prelude.{◌≡◌, ◌<◌, ◌^◌, ℕ, List, length, get_or, false}
use Rattle.td_list.specs.Items.{Item, weight_of}

abbrev pub nothing : Item
nothing = record { name = 0; weight = 0; marked = false }

-- the item at each place finds it by its name
abbrev pub ArePlaces : List Item → List ℕ → Type 0
ArePlaces items places =
    (k : ℕ) → k < length items
    → ((get_or items k nothing).name < length places) × (get_or places (get_or items k nothing).name 0 ≡ k)

pub record IsLine (items : List Item) (places : List ℕ) : Type 0 where
  pub each : ArePlaces items places
  pub few : length items < 2 ^ 32
  pub light : weight_of items < 2 ^ 31
