-- How `Vectors` keeps its rows: their numbers one after another.
use Rattle.std.specs.Prelude.{◌≡◌, ◌≤◌, ◌<◌, ◌+◌, ◌*◌, ◌^◌, ℕ, List, length, replicate}
use Rattle.td_base.specs.Run.{pieces}
use Rattle.td_base.specs.declared.site.TheConstants.{MAX_SITE}

-- so many rows of one size
abbrev pub rows_of : ℕ → ℕ → List ℕ → List (List ℕ)
rows_of size len numbers = pieces (replicate len size) numbers

-- the numbers are those of whole rows, and there is room for so many more rows
pub record AreVectorsParts (size len room : ℕ) (numbers : List ℕ) (capacity : ℕ) : Type 0 where
  pub some : 1 ≤ size
  pub short : size ≤ MAX_SITE
  pub whole : length numbers ≡ len * size
  pub numbers_room : (len + room) * size ≤ capacity
  pub places : len + room < 2 ^ 32
