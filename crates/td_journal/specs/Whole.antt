-- Journals that are written whole, in memory.
use Rattle.std.specs.Prelude.{◌≡◌, ◌<◌, ℕ, List, [], ◌∷◌, ◌++◌, length}
use Rattle.std.specs.List.{AllByRecursion}
use Rattle.td_disk.specs.declared.disk.TheConstants.{MAX_DISK_LEN}
use Rattle.td_op.specs.declared.input.Input.{Input}
use Rattle.td_replica.specs.Replica.{ReplicaValue, IsReplica}
use Rattle.td_input.specs.Spelling.{CanWrite}
use Rattle.td_journal.specs.declared.check.Check.{Check}
use Rattle.td_journal.specs.declared.format.Format.{Format}
use Rattle.td_journal.specs.Check.{bytes_of}
use Rattle.td_journal.specs.Journal.{journal_bytes, journal_check, inputs_of, IsJournal}

-- the journal of all of the replica's inputs, and the closed gate behind it
abbrev pub whole_journal : Format → ReplicaValue → List ℕ
whole_journal f r = journal_bytes f r.machine.site r.machine.size (inputs_of r.entries) ++ 0 ∷ []

-- it has more bytes than a disk may have
abbrev pub HasNoRoom : Format → ReplicaValue → Type 0
HasNoRoom f r = MAX_DISK_LEN < length (whole_journal f r)

-- these are the bytes of a journal of the inputs up to its closed gate, and the check behind them
pub record IsWritten (f : Format) (site n : ℕ) (inputs : List Input) (bytes : List ℕ) (check : Check) : Type 0 where
  pub is : bytes ≡ journal_bytes f site n inputs
  pub check_is : bytes_of check ≡ journal_check f site n inputs
  pub format : check.format ≡ f
  pub can : AllByRecursion CanWrite inputs

-- the file is a journal of the inputs of this replica, of the site among n
pub record IsJournalOf (site n : ℕ) (file : List ℕ) (r : ReplicaValue) : Type 0 where
  pub format : Format
  pub journal : IsJournal format site n (inputs_of r.entries) file
  pub can : AllByRecursion CanWrite (inputs_of r.entries)
  pub site_is : r.machine.site ≡ site
  pub size_is : r.machine.size ≡ n
  pub legal : IsReplica r
