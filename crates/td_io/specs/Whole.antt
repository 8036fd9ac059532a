-- What a move of a whole stream leaves where it stops early.
use Rattle.std.specs.Prelude.{◌≡◌, ◌<◌, ℕ, List, Option, length, take}
use Rattle.std.specs.Io.KnownBytes.{Appends, Consumes}

-- what is left lost its first n bytes
abbrev pub ConsumesFirst : Option (List ℕ) → Option (List ℕ) → ℕ → Type 0
ConsumesFirst old new n = (front : List ℕ) × (length front ≡ n) × Consumes old new front

-- what was held grew by a front of the bytes, and not by all of them
abbrev pub AppendsPart : Option (List ℕ) → Option (List ℕ) → List ℕ → Type 0
AppendsPart old new bytes = (n : ℕ) × (n < length bytes) × Appends old new (take n bytes)
