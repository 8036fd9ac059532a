-- A world of kept replicas, as contracts see it, and what its calls do: moves of a world, as far as disks have room.
use Rattle.std.specs.Prelude.{◌≡◌, ◌+◌, ◌%◌, ◌==◌, ◌&&◌, ℕ, Bool, true, false, List, [], ◌∷◌}
use Rattle.std.specs.Prelude.{length, nat_le, if◌then◌else◌}
use Rattle.td_op.specs.declared.input.Input.{Input}
use Rattle.td_disk.specs.declared.disk.TheConstants.{MAX_DISK_LEN}
use Rattle.td_journal.specs.declared.format.Format.TheVariants.{Plain}
use Rattle.td_journal.specs.Journal.{inputs_of, journal_bytes, record_bytes}
use Rattle.td_replica.specs.Replica.{ReplicaValue}
use Rattle.td_world.specs.World.{Move, WorldValue, moved, moved_all, new_world, replica}

-- the sites with the messages that they released; and whether a call found no memory
pub record KeptWorldValue : Type 0 where
  pub world : WorldValue
  pub spent : Bool

-- one that is not spent
abbrev pub kept_world : WorldValue → KeptWorldValue
kept_world w = record { world = w; spent = false }

-- n sites that have done nothing
abbrev pub new_kept : ℕ → KeptWorldValue
new_kept n = kept_world (new_world n)

-- ---- room

-- how long the journal of a replica is, up to its closed gate
abbrev pub journal_len : ReplicaValue → ℕ
journal_len r = length (journal_bytes Plain r.machine.site r.machine.size (inputs_of r.entries))

-- a record of the input fits behind it, and a closed gate behind that
abbrev pub fits : Input → ReplicaValue → Bool
fits input r = nat_le (journal_len r + length (record_bytes Plain [] input) + 1) MAX_DISK_LEN

-- at the site of the move
abbrev pub has_room : Move → WorldValue → Bool
has_room move w = fits move.input (replica w move.site)

-- the moves up to the first that has no room
abbrev pub fitting : List Move → WorldValue → List Move
fitting [] w = []
fitting (move ∷ moves) w = if has_room move w then move ∷ fitting moves (moved move w) else []

-- each has room when its turn comes
abbrev pub all_fit : List Move → WorldValue → Bool
all_fit [] w = true
all_fit (move ∷ moves) w = if has_room move w then all_fit moves (moved move w) else false

-- ---- crashes

-- The site does the request of a crash where the gate of its record is written when the crash comes (the disk calls are
-- numbered from 1: the body, a sync, the gate, a sync), and the crash leaves an open gate.
abbrev pub is_done : ℕ → ℕ → Bool
is_done k choice = nat_le 3 k && (choice % 256 == 1)

-- what the site has done when it is opened again
abbrev pub crash_moves : Move → ℕ → ℕ → List Move
crash_moves move k choice = if is_done k choice then move ∷ [] else []

abbrev pub crashed : Move → ℕ → ℕ → WorldValue → WorldValue
crashed move k choice w = moved_all (crash_moves move k choice) w
