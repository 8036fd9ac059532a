-- What steps that are staged leave as it was, what is kept of a line, and why one is not done.
use Rattle.std.specs.Prelude.{◌≡◌, ◌≤◌, ◌++◌, ℕ, List, false, Result, IfOk, IfErr, OnOk, length}
use Rattle.td_disk.specs.declared.disk.Disk as disk
use Rattle.td_disk.specs.Gated.{disk_of}
use Rattle.td_disk.specs.Moments.{LeavesOnly}
use Rattle.td_io.specs.Count.{Rose}
use Rattle.td_doc.specs.declared.doc.Doc as doc
use Rattle.td_op.specs.declared.entry.Entry.{Entry}
use Rattle.td_op.specs.declared.input.Input.{Input}
use Rattle.td_journal.specs.declared.kept.Kept.{Kept}
use Rattle.td_replica.specs.Replica.{ReplicaValue}
use Rattle.td_journal.specs.Journal.{inputs_of}
use Rattle.td_journal.specs.Seen.{replica_of, journal_of, format_of, acknowledged, is_closed, inputs_in}
use Rattle.td_journal.specs.Seen.{IsOwnJournal, IsOwnJournalOfEither}
use Rattle.td_shell.specs.declared.halt.Halt.{Halt}
use Rattle.td_shell.specs.declared.halt.Halt.TheVariants.{Memory, Read, Write, Full, Disk}
use Rattle.td_shell.specs.Answers.{Effect}
use Rattle.td_shell.specs.Wanting.{IsFull}

-- the journal is of the same site, in the same format
pub record IsSamePlace {D K : Type 0} {d : doc.Ghosts D} {w : disk.Ghosts K} (old new : Kept D K d w) : Type 0 where
  pub format : format_of new ≡ format_of old
  pub site : (replica_of new).machine.site ≡ (replica_of old).machine.site
  pub size : (replica_of new).machine.size ≡ (replica_of old).machine.size

-- steps more were done, and nothing on the disk
pub record IsStaged {D K : Type 0} {d : doc.Ghosts D} {w : disk.Ghosts K} (old new : Kept D K d w) : Type 0 where
  pub place : IsSamePlace old new
  pub journal : journal_of new ≡ journal_of old
  pub closed : is_closed new ≡ is_closed old
  pub counted : acknowledged new ≡ acknowledged old
  pub more : List Entry
  pub entries : (replica_of new).entries ≡ (replica_of old).entries ++ more

-- a crash leaves a journal of these inputs
abbrev pub IsKeptAs : {D K : Type 0} {d : doc.Ghosts D} → (w : disk.Ghosts K) → Kept D K d w → List Input → Type 0
IsKeptAs w k inputs = (c : List ℕ) → w.leaves (disk_of (journal_of k)) c → IsOwnJournal k inputs c

-- of all that was done, and nothing waits for a commit
pub record IsAllKept {D K : Type 0} {d : doc.Ghosts D} (w : disk.Ghosts K) (k : Kept D K d w) : Type 0 where
  pub open_still : is_closed k ≡ false
  pub counted : acknowledged k ≡ length (replica_of k).entries
  pub leaves : IsKeptAs w k (inputs_in k)

-- the disk failed between the one and the other
abbrev pub HasFailed : {D K : Type 0} {d : doc.Ghosts D} → (w : disk.Ghosts K) → Kept D K d w → Kept D K d w → Type 0
HasFailed w old new = Rose (w.faults (disk_of (journal_of old))) (w.faults (disk_of (journal_of new)))

-- a line that leads to this replica was not done: the disk failed, or nothing is done there
abbrev pub IsHalted : {D K : Type 0} {d : doc.Ghosts D} → (w : disk.Ghosts K) → (old new : Kept D K d w) → ReplicaValue
    → Halt → Type 0
IsHalted w old new behind Disk = HasFailed w old new
IsHalted w old new behind Memory = IsStaged old new
IsHalted w old new behind (Full len) = IsFull new behind len × IsStaged old new
IsHalted w old new behind Read = ⊥
IsHalted w old new behind Write = ⊥

-- A line with this effect was done, or not. A crash at any moment leaves what was there before, or all that it does.
pub record IsLineDone {D K : Type 0} {d : doc.Ghosts D} (w : disk.Ghosts K) (old new : Kept D K d w) (e : Effect)
    (result : Result (List ℕ) Halt) : Type 0 where
  pub text : IfOk result (λ text. text ≡ e.text)
  pub replica : OnOk result (replica_of new ≡ e.replica)
  pub kept : OnOk result (IsAllKept w new)
  pub halted : IfErr result (IsHalted w old new e.replica)
  pub counts : w.faults (disk_of (journal_of old)) ≤ w.faults (disk_of (journal_of new))
  pub place : IsSamePlace old new
  pub any_moment : LeavesOnly w (disk_of (journal_of old)) (disk_of (journal_of new))
      (IsOwnJournalOfEither old (inputs_in old) (inputs_of e.replica.entries))
