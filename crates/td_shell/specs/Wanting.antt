-- Why a line is not done: want of memory, or of room on the disk.
use Rattle.std.specs.Prelude.{◌≡◌, ◌<◌, ◌+◌, ⊤, ℕ, List, [], ◌∷◌, ◌++◌, length}
use Rattle.td_disk.specs.declared.disk.Disk as disk
use Rattle.td_disk.specs.declared.disk.TheConstants.{MAX_DISK_LEN}
use Rattle.td_doc.specs.declared.doc.Doc as doc
use Rattle.td_op.specs.declared.input.Input.{Input}
use Rattle.td_journal.specs.declared.format.Format.{Format}
use Rattle.td_journal.specs.declared.kept.Kept.{Kept}
use Rattle.td_journal.specs.Journal.{inputs_of, journal_bytes, record_bytes}
use Rattle.td_journal.specs.Seen.{format_of, inputs_in, replica_of}
use Rattle.td_replica.specs.Replica.{ReplicaValue}
use Rattle.td_shell.specs.declared.halt.Halt.{Halt}
use Rattle.td_journal.specs.declared.fault.KeptFault.{KeptFault}
use Rattle.td_journal.specs.declared.fault.KeptFault.TheVariants as Fault
use Rattle.td_shell.specs.declared.halt.Halt.TheVariants.{Memory, Read, Write, Full, Disk}
use Rattle.td_shell.specs.declared.status.Status.{Status}
use Rattle.td_shell.specs.declared.status.Status.TheVariants as Ended

-- the journal of the replica's inputs has so many bytes; with a record of the input behind them, and a gate, it would
-- pass the greatest length of a disk
pub record HasNoRoomFor (f : Format) (r : ReplicaValue) (input : Input) (len : ℕ) : Type 0 where
  pub long : len ≡ length (journal_bytes f r.machine.site r.machine.size (inputs_of r.entries))
  -- a record is as long behind any check
  pub no_room : MAX_DISK_LEN < len + length (record_bytes f [] input) + 1

-- on the way to the replica behind a command the next input has no room
pub record IsFull {D K : Type 0} {d : doc.Ghosts D} {w : disk.Ghosts K} (k : Kept D K d w) (behind : ReplicaValue)
    (len : ℕ) : Type 0 where
  pub input : Input
  pub others : List Input
  pub next : inputs_of behind.entries ≡ inputs_in k ++ input ∷ others
  pub no_room : HasNoRoomFor (format_of k) (replica_of k) input len

-- why a kept replica did not come to the replica behind a command
abbrev pub IsWanting : {D K : Type 0} {d : doc.Ghosts D} {w : disk.Ghosts K} → Kept D K d w → ReplicaValue → Halt
    → Type 0
IsWanting k behind Memory = ⊤
IsWanting k behind (Full len) = IsFull k behind len
IsWanting k behind _ = ⊥

abbrev pub halt_of : KeptFault → Halt
halt_of Fault.Closed = Disk
halt_of (Fault.Full len) = Full len
halt_of Fault.Disk = Disk
halt_of Fault.Memory = Memory

abbrev pub status_of : Halt → Status
status_of Memory = Ended.Memory
status_of Read = Ended.Read
status_of Write = Ended.Write
status_of (Full len) = Ended.Full len
status_of Disk = Ended.Disk
