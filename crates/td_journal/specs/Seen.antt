-- What is seen of a kept replica.
use Rattle.std.specs.Prelude.{◌≡◌, ◌+◌, ℕ, Bool, false, List, length}
use Rattle.td_disk.specs.declared.disk.Disk as disk
use Rattle.td_disk.specs.declared.gated.Gated.{Gated}
use Rattle.td_doc.specs.declared.doc.Doc as doc
use Rattle.td_op.specs.declared.input.Input.{Input}
use Rattle.td_replica.specs.Replica.{ReplicaValue}
use Rattle.td_journal.specs.declared.check.Check.{Check}
use Rattle.td_journal.specs.declared.format.Format.{Format}
use Rattle.td_journal.specs.declared.kept.Kept.{Kept}
use Rattle.td_journal.specs.Journal.{inputs_of, journal_bytes, IsJournal, IsJournalOfEither}
use Rattle.td_journal.specs.Kept.{acknowledged_of}

-- the replica, with all that is staged
abbrev pub replica_of : {D K : Type 0} {d : doc.Ghosts D} {w : disk.Ghosts K} → Kept D K d w → ReplicaValue
replica_of k = k.replica

-- the file that has the records of the acknowledged inputs, and the disk that it is on
abbrev pub journal_of : {D K : Type 0} {d : doc.Ghosts D} {w : disk.Ghosts K} → Kept D K d w → Gated K
journal_of k = k.journal

-- the check behind the last record, also of those that are staged
abbrev pub check_behind : {D K : Type 0} {d : doc.Ghosts D} {w : disk.Ghosts K} → Kept D K d w → Check
check_behind k = k.check

abbrev pub format_of : {D K : Type 0} {d : doc.Ghosts D} {w : disk.Ghosts K} → Kept D K d w → Format
format_of k = k.check.format

-- the records that are staged
abbrev pub staged_bytes : {D K : Type 0} {d : doc.Ghosts D} {w : disk.Ghosts K} → Kept D K d w → List ℕ
staged_bytes k = k.staged

-- how many entries are acknowledged
abbrev pub acknowledged : {D K : Type 0} {d : doc.Ghosts D} {w : disk.Ghosts K} → Kept D K d w → ℕ
acknowledged k = k.acknowledged

-- how many messages these sent
abbrev pub released : {D K : Type 0} {d : doc.Ghosts D} {w : disk.Ghosts K} → Kept D K d w → ℕ
released k = k.released

-- a commit failed at the disk
abbrev pub is_closed : {D K : Type 0} {d : doc.Ghosts D} {w : disk.Ghosts K} → Kept D K d w → Bool
is_closed k = k.closed

abbrev pub inputs_in : {D K : Type 0} {d : doc.Ghosts D} {w : disk.Ghosts K} → Kept D K d w → List Input
inputs_in k = inputs_of k.replica.entries

abbrev pub acknowledged_in : {D K : Type 0} {d : doc.Ghosts D} {w : disk.Ghosts K} → Kept D K d w → List Input
acknowledged_in k = acknowledged_of k.acknowledged k.replica

-- the file is a journal of these inputs at the site of the replica, in its format
abbrev pub IsOwnJournal : {D K : Type 0} {d : doc.Ghosts D} {w : disk.Ghosts K} → Kept D K d w → List Input → List ℕ
    → Type 0
IsOwnJournal k inputs file = IsJournal k.check.format k.replica.machine.site k.replica.machine.size inputs file

-- of these, or of those
abbrev pub IsOwnJournalOfEither : {D K : Type 0} {d : doc.Ghosts D} {w : disk.Ghosts K} → Kept D K d w → List Input
    → List Input → List ℕ → Type 0
IsOwnJournalOfEither k inputs others file =
    IsJournalOfEither k.check.format k.replica.machine.site k.replica.machine.size inputs others file

-- the journal is with what is staged as long as all its inputs make it, up to the closed gate
abbrev pub HasWholeLength : {D K : Type 0} {d : doc.Ghosts D} {w : disk.Ghosts K} → Kept D K d w → Type 0
HasWholeLength k =
    k.closed ≡ false → k.journal.end + length k.staged
    ≡ length (journal_bytes k.check.format k.replica.machine.site k.replica.machine.size (inputs_in k))
