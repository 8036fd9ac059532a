-- Where the replay of a trace stops, by the line and the word.
use Rattle.std.specs.Prelude.{◌≡◌, ◌≢◌, ◌<◌, ◌≤◌, ◌⊎◌, ◌-◌, ℕ, Bool, [], Some, slice_get, length}
use Rattle.td_base.specs.Lists.{In}
use Rattle.td_op.specs.declared.message.Message.TheVariants.{Vote as AVote}
use Rattle.td_op.specs.declared.vote.Vote.{Vote}
use Rattle.td_trace.specs.declared.entry.TraceEntry.{TraceEntry}
use Rattle.td_trace.specs.declared.told_input.ToldInput.TheVariants.{TookVote}
use Rattle.td_reader.specs.LineNumbers.{line_of_entry}
use Rattle.td_reader.specs.Values.{TraceValue}
use Rattle.td_law_replay.specs.Traced.{site_entries}
use Rattle.td_law_replay.specs.Judging.{States}
use Rattle.td_law_replay.specs.Replay.{AllDone}
use Rattle.td_law_replay.specs.Rounds.{Course, IsLostAt, IsWrongAt, IsStuck}
use Rattle.td_check.specs.declared.verdict.Fault.{Fault}
use Rattle.td_check.specs.declared.verdict.Fault.TheVariants.{Reply, Missing}
use Rattle.td_check.specs.Lines.{next_line}

-- the course of the replay comes to its end here
pub record IsOver (t : TraceValue) (last : States) : Type 0 where
  pub site : ℕ
  pub moved : Bool
  pub course : Course t.histories last site moved
  pub over : AllDone t.histories last

-- the k-th entry of the site takes a vote that its voter did not send
pub record IsUnsentAt (t : TraceValue) (last : States) (site k : ℕ) : Type 0 where
  pub some : 0 < site
  pub within : site ≤ length t.histories
  pub entry : TraceEntry
  pub is : slice_get (site_entries t.histories site) (k - 1) ≡ Some entry
  pub first : 0 < k
  pub vote : Vote
  pub takes : entry.told ≡ TookVote vote
  pub unsent : ¬ ((vote.voter ≤ length t.histories) × In (AVote vote) (last vote.voter).machine.sent)

-- an entry before the k-th of the site, by line
abbrev pub IsBefore : ℕ → ℕ → ℕ → ℕ → Type 0
IsBefore r j site k = (r < site) ⊎ ((r ≡ site) × (j < k))

-- the first site that has an entry left
pub record IsFirstLeft (t : TraceValue) (states : States) (site : ℕ) : Type 0 where
  pub some : 0 < site
  pub within : site ≤ length t.histories
  pub left : (states site).left ≢ []
  pub before : (r : ℕ) → 0 < r → r < site → (states r).left ≡ []

-- the replay stops at this line with this word
pub data Stops (t : TraceValue) : ℕ → Fault → Type 0 where
  -- the course comes to an entry whose reply is wrong
  Wrong : {states : States} {site : ℕ} {moved : Bool} (entry : TraceEntry) → Course t.histories states site moved
      → IsWrongAt t.histories site states entry → Stops t (next_line t states site) Reply
  -- the course comes to an entry that names what no site can have sent there
  Lost : {states : States} {site : ℕ} {moved : Bool} (entry : TraceEntry) → Course t.histories states site moved
      → IsLostAt t.histories site states entry → Stops t (next_line t states site) Missing
  -- nothing was done in a round: the next entry of the first site that has one left
  Stuck : {states : States} (site : ℕ) → IsStuck t.histories states → IsFirstLeft t states site
      → Stops t (next_line t states site) Missing
  -- the first entry, by line, that takes a vote which was not sent
  Unsent : {last : States} (site k : ℕ) → IsOver t last → IsUnsentAt t last site k
      → ((r j : ℕ) → IsBefore r j site k → ¬ IsUnsentAt t last r j)
      → Stops t (line_of_entry t site k) Missing
