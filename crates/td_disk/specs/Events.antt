-- A disk by the record of its calls: what it reads as, and all that a crash at each moment may leave.
use Rattle.std.specs.Prelude.{◌≡◌, ◌⊎◌, ◌+◌, ◌≤◌, ℕ, List, [], ◌∷◌, length}
use Rattle.std.proofs.Common.{inl, inr, arith}
use Rattle.td_disk.specs.declared.disk.TheConstants.{MAX_DISK_LEN}
use Rattle.td_disk.specs.Device.{overwritten, Torn}

-- a write of these bytes at a place, also one that failed, or a sync that succeeded on a sound disk
pub data Event : Type 0 where
  Wrote : ℕ → List ℕ → Event
  Synced : Event

-- what is read, what the last sync left, and the place and length of each write since then, the newest first
pub record Device : Type 0 where
  pub reads : List ℕ
  pub synced : List ℕ
  pub pending : List (ℕ × ℕ)

-- a disk that reads as this, all of it synced
abbrev pub settled : List ℕ → Device
settled file = record { reads = file; synced = file; pending = [] }

abbrev pub after : Event → Device → Device
after (Wrote at bytes) d =
    record d { reads = overwritten d.reads at bytes; pending = (at, length bytes) ∷ d.pending }
after Synced d = settled d.reads

-- after these events, of which the newest comes first
abbrev pub replay : List ℕ → List Event → Device
replay first [] = settled first
replay first (e ∷ earlier) = after e (replay first earlier)

-- from what was synced, through the writes since
abbrev pub Reaches : List ℕ → List (ℕ × ℕ) → List ℕ → Type 0
Reaches synced [] c = c ≡ synced
Reaches synced (write ∷ earlier) c = (d : List ℕ) × Reaches synced earlier d × Torn write.0 write.1 d c

-- what a crash may leave: all that was written, or what the writes may have made of it
abbrev pub Leaves : Device → List ℕ → Type 0
Leaves d c = (c ≡ d.reads) ⊎ Reaches d.synced d.pending c

-- what a crash may have left after at least so many of the events
abbrev pub LeftSince : List ℕ → List Event → ℕ → List ℕ → Type 0
LeftSince first [] t c = Leaves (settled first) c
LeftSince first (e ∷ earlier) t c =
    Leaves (after e (replay first earlier)) c ⊎ ((t ≤ length earlier) × LeftSince first earlier t c)

-- each write began within the file, and neither it nor the first file passes the greatest length
abbrev pub AreWithin : List ℕ → List Event → Type 0
AreWithin first [] = length first ≤ MAX_DISK_LEN
AreWithin first (Wrote at bytes ∷ earlier) =
    (at ≤ length (replay first earlier).reads) × (at + length bytes ≤ MAX_DISK_LEN) × AreWithin first earlier
AreWithin first (Synced ∷ earlier) = AreWithin first earlier

-- this moment is one of those since an earlier one
pub counts_now : (first : List ℕ) (events : List Event) (t : ℕ) (c : List ℕ)
    → Leaves (replay first events) c → LeftSince first events t c
counts_now first [] t c now = now
counts_now first (e ∷ earlier) t c now = inl now

-- and since this moment there is no other
pub only_now : (first : List ℕ) (events : List Event) (c : List ℕ)
    → LeftSince first events (length events) c → Leaves (replay first events) c
only_now first [] c left = left
only_now first (e ∷ earlier) c (inl now) = now
only_now first (e ∷ earlier) c (inr was) = absurd (omega (arith, was.0))
