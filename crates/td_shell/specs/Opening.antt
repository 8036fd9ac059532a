-- Whether a disk has no more than the beginning of a journal, which a crash may have left, and what is made of a disk.
use Rattle.std.specs.Prelude.{◌≡◌, ◌≤◌, ◌⊎◌, ◌+◌, ⊤, ℕ, List, length}
use Rattle.td_disk.specs.declared.disk.Disk as disk
use Rattle.td_disk.specs.Gated.{disk_of}
use Rattle.td_disk.specs.Moments.{LeavesOnly}
use Rattle.td_doc.specs.declared.doc.Doc as doc
use Rattle.td_io.specs.Count.{Rose}
use Rattle.td_journal.specs.declared.fault.OpenFault.{OpenFault}
use Rattle.td_journal.specs.declared.fault.OpenFault.TheVariants as Why
use Rattle.td_journal.specs.declared.format.Format.TheVariants.{Checked}
use Rattle.td_journal.specs.declared.kept.Kept.{Kept}
use Rattle.td_journal.specs.Bad.{IsBadAt}
use Rattle.td_journal.specs.Journal.{head_bytes, IsJournal}
use Rattle.td_journal.specs.Seen.{format_of, inputs_in, journal_of, replica_of}
use Rattle.td_replica.specs.Replica.{new_replica}
use Rattle.td_shell.specs.Staging.{IsAllKept}

-- it has no more bytes than a journal of no inputs
abbrev pub IsBare : ℕ → ℕ → List ℕ → Type 0
IsBare site n bytes = length bytes ≤ length (head_bytes Checked site n) + 1

-- a file that a crash may have left before a journal was begun or opened; or it was bare, and is
abbrev pub IsLeftBefore : {K : Type 0} → disk.Ghosts K → ℕ → ℕ → K → List ℕ → Type 0
IsLeftBefore w site n before file = w.leaves before file ⊎ (IsBare site n (w.reads before) × IsBare site n file)

-- what was made of a disk: a new replica on a bare one, in the format with checks, and else the one of its journal
pub record IsOpenedOn {D K : Type 0} {d : doc.Ghosts D} (w : disk.Ghosts K) (site n : ℕ) (before : K)
    (kept : Kept D K d w) : Type 0 where
  pub all_kept : IsAllKept w kept
  pub site_is : (replica_of kept).machine.site ≡ site
  pub size_is : (replica_of kept).machine.size ≡ n
  pub begun : IsBare site n (w.reads before) → (replica_of kept ≡ new_replica site n) × (format_of kept ≡ Checked)
  pub opened : ¬ IsBare site n (w.reads before)
      → IsJournal (format_of kept) site n (inputs_in kept) (w.reads before)
  pub any_moment : LeavesOnly w before (disk_of (journal_of kept)) (IsLeftBefore w site n before)

-- why nothing was: the disk failed, or has no journal of the site
abbrev pub IsRefusedFor : {K : Type 0} → disk.Ghosts K → ℕ → ℕ → (before after : K) → OpenFault → Type 0
IsRefusedFor w site n before after (Why.Bad at) =
    (¬ IsBare site n (w.reads before)) × IsBadAt site n (w.reads before) at
IsRefusedFor w site n before after Why.Disk = Rose (w.faults before) (w.faults after)
IsRefusedFor w site n before after Why.Memory = ⊤

pub record IsOpenRefused {K : Type 0} (w : disk.Ghosts K) (site n : ℕ) (before after : K) (why : OpenFault)
    : Type 0 where
  pub caused : IsRefusedFor w site n before after why
  pub any_moment : LeavesOnly w before after (IsLeftBefore w site n before)
