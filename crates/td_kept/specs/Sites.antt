-- One site of a world of kept replicas: the inputs that its calls come to, and what is left after a crash.
use Rattle.std.specs.Prelude.{◌≡◌, ◌≢◌, ◌++◌, ℕ, zero, suc, Bool, true, false, if◌then◌else◌}
use Rattle.std.specs.Prelude.{List, [], ◌∷◌, length, drop}
use Rattle.td_disk.specs.MemDisk.{MemDiskValue}
use Rattle.td_disk.specs.declared.disk.Disk as disk
use Rattle.td_disk.specs.Gated.{disk_of}
use Rattle.td_doc.specs.declared.doc.Doc as doc
use Rattle.td_op.specs.declared.input.Input.{Input}
use Rattle.td_op.specs.declared.input.Input.TheVariants.{Take, Next}
use Rattle.td_op.specs.declared.message.Message.{Message}
use Rattle.td_replica.specs.Replica.{ReplicaValue, IsReplica, after_step, has_ready}
use Rattle.td_journal.specs.declared.format.Format.TheVariants.{Plain}
use Rattle.td_journal.specs.declared.kept.Kept.{Kept}
use Rattle.td_journal.specs.Seen.{acknowledged, acknowledged_in, format_of, inputs_in, is_closed, journal_of}
use Rattle.td_journal.specs.Seen.{released, replica_of, staged_bytes}
use Rattle.td_kept.specs.KeptWorld.{fits, is_done}

-- ---- inputs

-- the replica after these inputs, one after another
abbrev pub after_steps : List Input → ReplicaValue → ReplicaValue
after_steps [] r = r
after_steps (input ∷ inputs) r = after_steps inputs (after_step input r)

-- leave to take what waits, as long as something is ready, at most so often
abbrev pub leaves_to_take : ℕ → ReplicaValue → List Input
leaves_to_take zero r = []
leaves_to_take (suc k) r = if has_ready r.machine then Next ∷ leaves_to_take k (after_step Next r) else []

-- what waits, once
abbrev pub waiting_inputs : ReplicaValue → List Input
waiting_inputs r = leaves_to_take (length r.machine.waiting) r

-- a message, and then what waits
abbrev pub given_inputs : Message → ReplicaValue → List Input
given_inputs message r = Take message ∷ waiting_inputs (after_step (Take message) r)

-- the inputs up to the first that does not fit
abbrev pub fitting_inputs : List Input → ReplicaValue → List Input
fitting_inputs [] r = []
fitting_inputs (input ∷ inputs) r = if fits input r then input ∷ fitting_inputs inputs (after_step input r) else []

abbrev pub all_inputs_fit : List Input → ReplicaValue → Bool
all_inputs_fit [] r = true
all_inputs_fit (input ∷ inputs) r = if fits input r then all_inputs_fit inputs (after_step input r) else false

-- what was sent since then
abbrev pub sent_since : ReplicaValue → ReplicaValue → List Message
sent_since old new = drop (length old.machine.sent) new.machine.sent

-- ---- a site

-- no write or sync of the disk is to fail, and none found no memory
pub record IsQuiet (disk : MemDiskValue) : Type 0 where
  pub fails : disk.fails ≡ []
  pub fuse : disk.fuse ≡ 0
  pub starved : disk.starved ≡ 0

-- it goes on, in the plain format, on a disk that fails no call
pub record IsGoingOn {D : Type 0} {d : doc.Ghosts D} {w : disk.Ghosts MemDiskValue} (k : Kept D MemDiskValue d w)
    : Type 0 where
  pub still_open : is_closed k ≡ false
  pub format : format_of k ≡ Plain
  pub quiet : IsQuiet (disk_of (journal_of k))

-- all its inputs are on the disk, and all that it sent is released
pub record IsWhole {D : Type 0} {d : doc.Ghosts D} {w : disk.Ghosts MemDiskValue} (k : Kept D MemDiskValue d w)
    : Type 0 where
  pub goes_on : IsGoingOn k
  pub nothing_staged : staged_bytes k ≡ []
  pub acknowledged_all : acknowledged k ≡ length (replica_of k).entries
  pub released_all : released k ≡ length (replica_of k).machine.sent

-- some of its inputs are not on the disk yet
pub record IsPending {D : Type 0} {d : doc.Ghosts D} {w : disk.Ghosts MemDiskValue} (k : Kept D MemDiskValue d w)
    : Type 0 where
  pub goes_on : IsGoingOn k
  pub some_staged : staged_bytes k ≢ []

-- it has done this input, which is not on the disk yet
pub record IsAsked {D : Type 0} {d : doc.Ghosts D} {w : disk.Ghosts MemDiskValue} (input : Input) (old : ReplicaValue)
    (k : Kept D MemDiskValue d w) : Type 0 where
  pub pending : IsPending k
  pub was : IsReplica old
  pub now : IsReplica (replica_of k)
  pub replica : replica_of k ≡ after_step input old
  pub site_is : (replica_of k).machine.site ≡ old.machine.site
  pub size_is : (replica_of k).machine.size ≡ old.machine.size
  pub acknowledged_is : acknowledged k ≡ length old.entries
  pub released_is : released k ≡ length old.machine.sent

-- the replica has done these inputs, all is on its disk, and what they sent is released
pub record IsDone {D : Type 0} {d : doc.Ghosts D} {w : disk.Ghosts MemDiskValue} (inputs : List Input)
    (old : ReplicaValue) (k : Kept D MemDiskValue d w) (before sent : List Message) : Type 0 where
  pub replica : replica_of k ≡ after_steps inputs old
  pub whole : IsWhole k
  pub sent_is : sent ≡ before ++ sent_since old (after_steps inputs old)

-- ---- crashes

-- the inputs that a site has when its commit was cut off and it is opened again
abbrev pub left_inputs : {D : Type 0} {d : doc.Ghosts D} {w : disk.Ghosts MemDiskValue} → ℕ → ℕ
    → Kept D MemDiskValue d w → List Input
left_inputs call choice k = if is_done call choice then inputs_in k else acknowledged_in k

-- what it has done of an input
abbrev pub crash_inputs : Input → ℕ → ℕ → List Input
crash_inputs input call choice = if is_done call choice then input ∷ [] else []
