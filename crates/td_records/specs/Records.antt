-- Records one behind another, and a closed gate: what bytes stand for.
use Rattle.std.specs.Prelude.{◌<◌, ◌^◌, ℕ, List, ◌∷◌, ◌++◌, length}
use Rattle.std.specs.Int.{w16, to_be_bytes}
use Rattle.std.specs.List.{flat_map, AllByRecursion}
use Rattle.td_disk.specs.Gated.{Stands}

-- an open gate, the length of the body, and the body
abbrev pub record_of : List ℕ → List ℕ
record_of body = 1 ∷ to_be_bytes w16 (length body) ++ body

abbrev pub records_of : List (List ℕ) → List ℕ
records_of bodies = flat_map record_of bodies

-- a body whose length two bytes can say
abbrev pub IsShort : List ℕ → Type 0
IsShort body = length body < 2 ^ 16

abbrev pub AreShort : List (List ℕ) → Type 0
AreShort bodies = AllByRecursion IsShort bodies

-- the records of these bodies, a closed gate, and any bytes
abbrev pub StandFor : List (List ℕ) → List ℕ → Type 0
StandFor bodies bytes = Stands (records_of bodies) bytes
