-- A file that grows by whole pieces: its front, a closed gate, and any bytes behind it. A gate is open where it is 1.
use Rattle.std.specs.Prelude.{◌≡◌, ◌≢◌, ◌⊎◌, ◌<◌, ◌-◌, ℕ, List, [], ◌∷◌, ◌++◌, length, take, slice_index}
use Rattle.td_disk.specs.declared.disk.Disk as disk
use Rattle.td_disk.specs.declared.gated.Gated.{Gated}
use Rattle.td_disk.specs.Moments.{IsSynced}

-- the file is this front, and then a closed gate and any bytes
pub record Stands (front file : List ℕ) : Type 0 where
  pub gate : ℕ
  pub rest : List ℕ
  pub shut : gate ≢ 1
  pub is : file ≡ front ++ gate ∷ rest

-- the file's front is this, or this with the piece behind it
abbrev pub StandsBeforeOrAfter : List ℕ → List ℕ → List ℕ → Type 0
StandsBeforeOrAfter front piece file = Stands front file ⊎ Stands (front ++ piece) file

-- the bytes are a piece that begins with an open gate, and the next closed gate behind it
pub record IsPiece (bytes : List ℕ) : Type 0 where
  pub body : List ℕ
  pub is : bytes ≡ 1 ∷ body ++ 0 ∷ []

-- the piece without the gate behind it
abbrev pub piece_of : List ℕ → List ℕ
piece_of bytes = take (length bytes - 1) bytes

abbrev pub disk_of : {D : Type 0} → Gated D → D
disk_of g = g.disk

-- the length up to the closed gate
abbrev pub end_of : {D : Type 0} → Gated D → ℕ
end_of g = g.end

-- what stands before the closed gate
abbrev pub front_of : {D : Type 0} → disk.Ghosts D → Gated D → List ℕ
front_of w g = take g.end (w.reads g.disk)

-- a closed gate stands behind the front, and all of the file is on the disk
pub record IsSettled {D : Type 0} (w : disk.Ghosts D) (g : Gated D) : Type 0 where
  pub within : g.end < length (w.reads g.disk)
  pub shut : slice_index (w.reads g.disk) g.end ≢ 1
  pub synced : IsSynced w g.disk
