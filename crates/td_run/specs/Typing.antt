-- What edits do to the atoms that a site shows.
use Rattle.std.specs.Prelude.{◌≡◌, ◌+◌, ◌++◌, ℕ, List, take, drop}
use Rattle.td_doc.specs.Document.{live_atoms}
use Rattle.td_world.specs.World.{WorldValue, machine_of}
use Rattle.td_run.specs.Asking.{Asked}

abbrev pub shown_at : WorldValue → ℕ → List (List ℕ)
shown_at w site = live_atoms (machine_of w site).doc

-- of these atoms as many as were put stand at the index, in their order, and no other atom moves
abbrev pub IsTyped : ℕ → ℕ → List (List ℕ) → WorldValue → Asked → Type 0
IsTyped site index atoms w a =
    shown_at a.world site ≡ take index (shown_at w site) ++ (take a.done atoms ++ drop index (shown_at w site))

-- as many atoms as were deleted go, from the index on, and no other moves
abbrev pub IsCut : ℕ → ℕ → WorldValue → Asked → Type 0
IsCut site index w a =
    shown_at a.world site ≡ take index (shown_at w site) ++ drop (index + a.done) (shown_at w site)
