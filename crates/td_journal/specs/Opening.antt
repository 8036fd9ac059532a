-- What is read of a file that is a journal.
use Rattle.std.specs.Prelude.{◌≡◌, ◌++◌, ℕ, List, length}
use Rattle.std.specs.List.{AllByRecursion}
use Rattle.td_op.specs.declared.input.Input.{Input}
use Rattle.td_replica.specs.Replica.{ReplicaValue}
use Rattle.td_input.specs.Spelling.{CanWrite}
use Rattle.td_journal.specs.declared.check.Check.{Check}
use Rattle.td_journal.specs.Check.{bytes_of}
use Rattle.td_journal.specs.Bad.{format_in, Begins}
use Rattle.td_journal.specs.Journal.{head_bytes, first_check, record_bytes, records_bytes, last_check}
use Rattle.td_journal.specs.Journal.{journal_bytes, journal_check, inputs_of, IsJournal}

-- behind the header and this check stand these bytes
pub record IsHead (site n : ℕ) (bytes : List ℕ) (check : Check) (records : List ℕ) : Type 0 where
  pub is : bytes ≡ head_bytes (format_in bytes) site n ++ records
  pub check_is : bytes_of check ≡ first_check (format_in bytes) site n
  pub format : check.format ≡ format_in bytes

-- behind the first check stand the records of the replica's inputs, then this check, and no record behind it
pub record IsPlayed (site n : ℕ) (first : Check) (bytes : List ℕ) (r : ReplicaValue) (check : Check) (rest : List ℕ)
    : Type 0 where
  pub site_is : r.machine.site ≡ site
  pub size_is : r.machine.size ≡ n
  pub records : bytes ≡ records_bytes first.format (bytes_of first) (inputs_of r.entries) ++ rest
  pub can : AllByRecursion CanWrite (inputs_of r.entries)
  pub check_is : bytes_of check ≡ last_check first.format (bytes_of first) (inputs_of r.entries)
  pub format : check.format ≡ first.format
  pub no_record : (input : Input) → CanWrite input → ¬ Begins (record_bytes check.format (bytes_of check) input) rest

-- the file is a journal of the replica's inputs, behind which stand this check and the closed gate, at this place
pub record IsFound (site n : ℕ) (file : List ℕ) (r : ReplicaValue) (check : Check) (end : ℕ) : Type 0 where
  pub journal : IsJournal check.format site n (inputs_of r.entries) file
  pub can : AllByRecursion CanWrite (inputs_of r.entries)
  pub site_is : r.machine.site ≡ site
  pub size_is : r.machine.size ≡ n
  pub check_is : bytes_of check ≡ journal_check check.format site n (inputs_of r.entries)
  pub end_is : end ≡ length (journal_bytes check.format site n (inputs_of r.entries))
