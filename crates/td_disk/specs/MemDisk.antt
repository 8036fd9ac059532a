-- What contracts see of a disk in memory.
use Rattle.std.specs.Prelude.{◌≡◌, ◌⊎◌, ◌-◌, ℕ, Bool, true, false, List, Contains, if◌then◌else◌}
use Rattle.td_io.specs.Count.{counted}
use Rattle.td_disk.specs.Events.{Wrote, Synced}
use Rattle.td_disk.specs.Record.{RecordValue, begun, noted}

-- its record; which writes and syncs fail, by their numbers from 1; how many were made; how many from now on the next
-- is that fails (0: none); how many failed, and how many of these for want of memory; whether no sync failed
pub record MemDiskValue : Type 0 where
  pub past : RecordValue
  pub fails : List ℕ
  pub made : ℕ
  pub fuse : ℕ
  pub faults : ℕ
  pub starved : ℕ
  pub sound : Bool

abbrev pub new_disk : List ℕ → List ℕ → MemDiskValue
new_disk first fails =
    record { past = begun first; fails = fails; made = 0; fuse = 0; faults = 0; starved = 0; sound = true }

-- its next write or sync is one of those that it was told to let fail
abbrev pub IsTold : MemDiskValue → Type 0
IsTold d = Contains d.fails (counted d.made) ⊎ (d.fuse ≡ 1)

-- one write or sync more was made
abbrev pub called : MemDiskValue → MemDiskValue
called d = record d { made = counted d.made; fuse = d.fuse - 1 }

abbrev pub written : ℕ → List ℕ → MemDiskValue → MemDiskValue
written at bytes d = record d { past = noted (Wrote at bytes) d.past }

-- a sync of a disk that is not sound keeps nothing
abbrev pub synced : MemDiskValue → MemDiskValue
synced d = record d { past = if d.sound then noted Synced d.past else d.past }

abbrev pub unsound : MemDiskValue → MemDiskValue
unsound d = record d { sound = false }

abbrev pub failed : MemDiskValue → MemDiskValue
failed d = record d { faults = counted d.faults }

-- and it failed for want of memory
abbrev pub starved : MemDiskValue → MemDiskValue
starved d = record d { faults = counted d.faults; starved = counted d.starved }

-- ---- calls

-- a write that is done, and one that fails: it was told to, and is noted all the same, or it found no memory
abbrev pub Writes : MemDiskValue → ℕ → List ℕ → Bool → MemDiskValue → Type 0
Writes old at bytes true new = (¬ IsTold old) × (new ≡ written at bytes (called old))
Writes old at bytes false new =
    (IsTold old × (new ≡ failed (written at bytes (called old)))) ⊎ (new ≡ starved (called old))

-- a sync that is done, and one that fails
abbrev pub Syncs : MemDiskValue → Bool → MemDiskValue → Type 0
Syncs old true new = (¬ IsTold old) × (new ≡ synced (called old))
Syncs old false new =
    (IsTold old × (new ≡ unsound (failed (called old)))) ⊎ (new ≡ unsound (starved (called old)))
