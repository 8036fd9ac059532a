-- What calls of a disk made of it, one after another, of which only the last may have failed.
use Rattle.std.specs.Prelude.{◌⊎◌, ◌+◌, ℕ, Bool, true, false, List, [], ◌∷◌, drop}
use Rattle.td_disk.specs.declared.disk.Disk as disk

-- a write of these bytes at a place, and a sync
abbrev pub Puts : {D : Type 0} → disk.Ghosts D → D → ℕ → List ℕ → Bool → D → Type 0
Puts {D} w old at bytes true new = (mid : D) × w.writes old at bytes true mid × w.syncs mid true new
Puts {D} w old at bytes false new =
    w.writes old at bytes false new ⊎ ((mid : D) × w.writes old at bytes true mid × w.syncs mid false new)

-- the piece is put behind the closed gate at this place, with the next closed gate, and then the gate is opened
abbrev pub Grows : {D : Type 0} → disk.Ghosts D → D → ℕ → List ℕ → Bool → D → Type 0
Grows {D} w old gate bytes true new =
    (mid : D) × Puts w old (gate + 1) (drop 1 bytes) true mid × Puts w mid gate (1 ∷ []) true new
Grows {D} w old gate bytes false new =
    Puts w old (gate + 1) (drop 1 bytes) false new
    ⊎ ((mid : D) × Puts w old (gate + 1) (drop 1 bytes) true mid × Puts w mid gate (1 ∷ []) false new)
