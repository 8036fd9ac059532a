-- A kept replica: a replica, the journal of its acknowledged inputs, and the records of those that are staged.
use Rattle.std.specs.Prelude.{◌≡◌, ◌⊎◌, ◌+◌, ◌≤◌, ℕ, List, length, take, drop}
use Rattle.td_base.specs.Lists.{In}
use Rattle.td_op.specs.declared.input.Input.{Input}
use Rattle.td_op.specs.declared.input.Input.TheVariants.{Local, Take, Next}
use Rattle.td_disk.specs.declared.disk.Disk as disk
use Rattle.td_disk.specs.declared.gated.Gated.{Gated}
use Rattle.td_disk.specs.Gated.{IsSettled, front_of}
use Rattle.td_disk.specs.Moments.{LeavesOnly}
use Rattle.td_machine.specs.Machine.{start}
use Rattle.td_machine.specs.History.{after}
use Rattle.td_replica.specs.Replica.{ReplicaValue}
use Rattle.td_input.specs.Spelling.{IsIndex, index_of}
use Rattle.td_disk.specs.declared.disk.TheConstants.{MAX_DISK_LEN}
use Rattle.td_journal.specs.declared.check.Check.{Check}
use Rattle.td_journal.specs.declared.format.Format.{Format}
use Rattle.td_journal.specs.Check.{bytes_of}
use Rattle.td_journal.specs.Journal.{records_bytes, last_check, journal_bytes, journal_check, inputs_of}

-- the inputs of the first so many entries
abbrev pub acknowledged_of : ℕ → ReplicaValue → List Input
acknowledged_of count r = inputs_of (take count r.entries)

abbrev pub staged_of : ℕ → ReplicaValue → List Input
staged_of count r = inputs_of (drop count r.entries)

-- how many messages were sent by the first so many entries
abbrev pub sent_by : ℕ → ReplicaValue → ℕ
sent_by count r = length (after (start r.machine.site r.machine.size) (take count r.entries)).sent

-- the journal has exactly these inputs, all of it on the disk, and the piece has the records of the staged ones
pub record IsKeptAt {K : Type 0} (w : disk.Ghosts K) (f : Format) (site n : ℕ) (inputs staged : List Input)
    (j : Gated K) (check piece : List ℕ) : Type 0 where
  pub settled : IsSettled w j
  pub room : j.end + length piece + 1 ≤ MAX_DISK_LEN
  pub spelled : front_of w j ≡ journal_bytes f site n inputs
  pub staged_is : piece ≡ records_bytes f (journal_check f site n inputs) staged
  pub check_is : check ≡ last_check f (journal_check f site n inputs) staged

-- so many of the replica's entries are acknowledged, and the others staged
abbrev pub IsKept : {K : Type 0} → disk.Ghosts K → ReplicaValue → Gated K → Check → List ℕ → ℕ → Type 0
IsKept w r j check piece count =
    IsKeptAt w check.format r.machine.site r.machine.size (acknowledged_of count r) (staged_of count r) j
    (bytes_of check) piece

-- the index that an input names, or 0
abbrev pub index_in : Input → ℕ
index_in (Local request) = index_of request
index_in (Take message) = 0
index_in Next = 0

-- the inputs have bytes of their own, as far as their types do not say so
abbrev pub AreIndexed : List Input → Type 0
AreIndexed inputs = (i : Input) → In i inputs → IsIndex (index_in i)

-- so many of the entries are acknowledged, and so many messages were sent by them
pub record IsCounted (r : ReplicaValue) (count released : ℕ) : Type 0 where
  pub within : count ≤ length r.entries
  pub released_is : released ≡ sent_by count r

-- nothing was done on the disk, or a crash leaves no more bytes than a journal of no inputs
abbrev pub OrBegan : {K : Type 0} → disk.Ghosts K → ℕ → K → K → Type 0
OrBegan w len old new = (new ≡ old) ⊎ LeavesOnly w old new (λ c. length c ≤ len)
