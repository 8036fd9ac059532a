-- How a world of kept replicas is kept: a seat for each site, which is empty where the site did not come back.
use Rattle.std.specs.Prelude.{◌≡◌, ◌++◌, Bool, true, false, List, map, Option, Some, None}
use Rattle.std.specs.List.{AllByRecursion}
use Rattle.td_disk.specs.MemDisk.{MemDiskValue}
use Rattle.td_disk.specs.declared.disk.Disk as disk
use Rattle.td_doc.specs.declared.doc.Doc as doc
use Rattle.td_op.specs.declared.input.Input.{Input}
use Rattle.td_op.specs.declared.message.Message.{Message}
use Rattle.td_replica.specs.Replica.{ReplicaValue, new_replica}
use Rattle.td_journal.specs.declared.kept.Kept.{Kept}
use Rattle.td_journal.specs.Seen.{replica_of}
use Rattle.td_world.specs.World.{IsWorld, WorldValue}
use Rattle.td_kept.specs.Sites.{after_steps, sent_since, IsWhole}

pub record SeatValue : Type 0 where
  -- in an empty seat a new one
  pub replica : ReplicaValue
  pub there : Bool

abbrev pub taken : ReplicaValue → SeatValue
taken r = record { replica = r; there = true }

abbrev pub empty : SeatValue
empty = record { replica = new_replica 1 1; there = false }

abbrev pub seat_value : {D : Type 0} {d : doc.Ghosts D} {w : disk.Ghosts MemDiskValue}
    → Option (Kept D MemDiskValue d w) → SeatValue
seat_value None = empty
seat_value (Some k) = taken (replica_of k)

abbrev pub IsSeat : {D : Type 0} {d : doc.Ghosts D} {w : disk.Ghosts MemDiskValue}
    → Option (Kept D MemDiskValue d w) → Type 0
IsSeat None = Unit {0}
IsSeat (Some k) = IsWhole k

abbrev pub world_value : List SeatValue → List Message → WorldValue
world_value seats sent = record { replicas = map (λ (s : SeatValue). s.replica) seats; sent = sent }

abbrev pub IsThere : SeatValue → Type 0
IsThere seat = seat.there ≡ true

-- where it is not spent, it is a world, and no seat is empty
pub record IsKeptWorld (seats : List SeatValue) (sent : List Message) (spent : Bool) : Type 0 where
  pub world : spent ≡ false → IsWorld (world_value seats sent)
  pub there : spent ≡ false → AllByRecursion IsThere seats

-- the replica has done these inputs, all is on its disk, and what they sent is released
pub record IsAfter (inputs : List Input) (old new : SeatValue) (before sent : List Message) : Type 0 where
  pub seat : new ≡ taken (after_steps inputs old.replica)
  pub sent_is : sent ≡ before ++ sent_since old.replica (after_steps inputs old.replica)
