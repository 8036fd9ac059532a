-- Sessions that are saved, and loaded again.
use Rattle.std.specs.Prelude.{◌≡◌, ◌⊎◌, ◌<◌, ◌≤◌, ℕ, List, length, Result, Ok, Err, IfOk, IfErr}
use Rattle.td_disk.specs.declared.disk.TheConstants.{MAX_DISK_LEN}
use Rattle.td_journal.specs.declared.format.Format.TheVariants.{Checked}
use Rattle.td_journal.specs.Bad.{IsBadAt}
use Rattle.td_journal.specs.Whole.{whole_journal, IsJournalOf}
use Rattle.td_replica.specs.Replica.{ReplicaValue}
use Rattle.td_session.specs.declared.fault.Fault.{Fault}
use Rattle.td_session.specs.declared.fault.Fault.TheVariants.{Memory, Site, Journal, Long}
use Rattle.td_session.specs.Calls.{IsSiteAmong}

-- the journal of the session's inputs, in the format with checks
abbrev pub session_journal : ReplicaValue → List ℕ
session_journal r = whole_journal Checked r

-- the fault of a journal that is longer than one may be
abbrev pub IsTooLong : List ℕ → Fault → Type 0
IsTooLong journal fault = (fault ≡ Long) × (MAX_DISK_LEN < length journal)

pub record IsSaved (r : ReplicaValue) (result : Result (List ℕ) Fault) : Type 0 where
  pub ok : IfOk result (λ journal. (journal ≡ session_journal r) × (length journal ≤ MAX_DISK_LEN)
      × IsJournalOf r.machine.site r.machine.size journal r)
  pub err : IfErr result (λ fault. (fault ≡ Memory) ⊎ IsTooLong (session_journal r) fault)

-- the bytes are no journal of the site, and the place is told where the first part that is none begins
abbrev pub IsNoJournal : ℕ → ℕ → List ℕ → Fault → Type 0
IsNoJournal site sites journal fault = (at : ℕ) × (fault ≡ Journal at) × IsBadAt site sites journal at

pub record IsLoaded (site sites : ℕ) (journal : List ℕ) (result : Result ReplicaValue Fault) : Type 0 where
  pub ok : IfOk result (λ r. IsSiteAmong site sites × IsJournalOf site sites journal r)
  -- of a session's journal this is the session
  pub same : (r : ReplicaValue) → IsJournalOf site sites journal r
      → (result ≡ Ok r) ⊎ IfErr result (λ fault. (fault ≡ Memory) ⊎ IsTooLong journal fault)
  pub err : IsSiteAmong site sites → IfErr result (λ fault. (fault ≡ Memory) ⊎ (IsTooLong journal fault
      ⊎ IsNoJournal site sites journal fault))
  pub other : ¬ IsSiteAmong site sites → result ≡ Err Site
