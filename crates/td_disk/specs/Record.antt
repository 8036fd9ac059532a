-- What a disk held at first, and its writes and syncs since then.
use Rattle.std.specs.Prelude.{◌≡◌, ◌≤◌, ℕ, List, [], ◌∷◌, length, take, drop, map, reverse}
use Rattle.td_disk.specs.declared.event.Call.{Call}
use Rattle.td_disk.specs.declared.event.Call.TheVariants.{Write, Sync}
use Rattle.td_disk.specs.Events.{Event, Wrote, Synced, Device, replay}

-- the events with the newest first
pub record RecordValue : Type 0 where
  pub first : List ℕ
  pub events : List Event

abbrev pub begun : List ℕ → RecordValue
begun first = record { first = first; events = [] }

abbrev pub noted : Event → RecordValue → RecordValue
noted e r = record r { events = e ∷ r.events }

abbrev pub device_of : RecordValue → Device
device_of r = replay r.first r.events

abbrev pub event_of : Call → Event
event_of (Write at bytes) = Wrote at bytes.items
event_of Sync = Synced

-- what is kept in the order of time, with the newest first
abbrev pub events_of : List Call → List Event
events_of calls = reverse (map event_of calls)

-- the places and lengths of the writes
abbrev pub writes_of : List Event → List (ℕ × ℕ)
writes_of [] = []
writes_of (Wrote at bytes ∷ earlier) = (at, length bytes) ∷ writes_of earlier
writes_of (Synced ∷ earlier) = writes_of earlier

-- the last sync is the last of the first n calls
pub record IsSyncedAt (n : ℕ) (first : List ℕ) (calls : List Call) : Type 0 where
  pub within : n ≤ length calls
  pub synced : (replay first (events_of calls)).synced ≡ (replay first (events_of (take n calls))).reads
  pub pending : (replay first (events_of calls)).pending ≡ writes_of (events_of (drop n calls))
