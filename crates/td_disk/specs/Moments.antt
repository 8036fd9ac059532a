-- What is said of a disk by its trait's words: what is kept of it now, and what a crash leaves at each moment of a
-- call.
use Rattle.std.specs.Prelude.{◌≡◌, ◌⊎◌, ◌≤◌, ℕ, List, true}
use Rattle.td_disk.specs.declared.disk.Disk as disk
use Rattle.td_disk.specs.Device.{Only}

-- no sync failed, and a crash leaves what the disk reads as
pub record IsSynced {D : Type 0} (w : disk.Ghosts D) (d : D) : Type 0 where
  pub durable : Only (w.reads d) (w.leaves d)
  pub sound : w.is_sound d ≡ true

-- A crash at any moment from the old disk to the new one leaves what has P.
pub record LeavesOnly {D : Type 0} (w : disk.Ghosts D) (old new : D) (P : List ℕ → Type 0) : Type 0 where
  pub later : w.clock old ≤ w.clock new
  pub each : (c : List ℕ) → w.left_since new (w.clock old) c → P c
  -- for what began earlier
  pub before : (t : ℕ) (c : List ℕ) → t ≤ w.clock old → w.left_since new t c → w.left_since old t c ⊎ P c
