-- Which entries of a trace take votes that are not in a set.
use Rattle.std.specs.Prelude.{◌≡◌, ◌<◌, ◌≤◌, ◌-◌, ℕ, List, Bool, true, false, not, length, Some, slice_get}
use Rattle.std.specs.BTreeSet.{BTreeSet, contains}
use Rattle.td_trace.specs.declared.entry.TraceEntry.{TraceEntry}
use Rattle.td_trace.specs.declared.told_input.ToldInput.{ToldInput}
use Rattle.td_trace.specs.declared.told_input.ToldInput.TheVariants.{Asked, TookOp, TookVote, Went}
use Rattle.td_law_replay.specs.Traced.{site_entries}
use Rattle.td_check.specs.declared.sent.SentVote.{SentVote}
use Rattle.td_reader.specs.LineNumbers.{line_of_entry}
use Rattle.td_check.specs.SentVotes.{sent_cmp, sent_vote}
use Rattle.td_reader.specs.Values.{TraceValue}

abbrev pub tells_unknown : BTreeSet SentVote → ToldInput → Bool
tells_unknown sent (Asked request) = false
tells_unknown sent (TookOp dot) = false
tells_unknown sent (TookVote vote) = not (contains sent_cmp sent (sent_vote vote))
tells_unknown sent Went = false

-- the entry takes a vote that is not in the set
abbrev pub is_unknown : BTreeSet SentVote → TraceEntry → Bool
is_unknown sent entry = tells_unknown sent entry.told

-- none of the first so many entries does
abbrev pub AreKnownUpto : BTreeSet SentVote → List TraceEntry → ℕ → Type 0
AreKnownUpto sent entries n =
    (k : ℕ) (entry : TraceEntry) → k < n → slice_get entries k ≡ Some entry → is_unknown sent entry ≡ false

abbrev pub AreKnownIn : BTreeSet SentVote → List TraceEntry → Type 0
AreKnownIn sent entries = AreKnownUpto sent entries (length entries)

-- the entry with this number, from 1, is the first that does
pub record IsFirstUnknownIn (sent : BTreeSet SentVote) (entries : List TraceEntry) (k : ℕ) : Type 0 where
  pub some : 0 < k
  pub within : k ≤ length entries
  pub entry : TraceEntry
  pub is : slice_get entries (k - 1) ≡ Some entry
  pub unknown : is_unknown sent entry ≡ true
  pub before : AreKnownUpto sent entries (k - 1)

-- none of the entries of the first so many sites does
abbrev pub AreKnownTo : BTreeSet SentVote → TraceValue → ℕ → Type 0
AreKnownTo sent t n = (site : ℕ) → 0 < site → site ≤ n → AreKnownIn sent (site_entries t.histories site)

abbrev pub AreKnown : BTreeSet SentVote → TraceValue → Type 0
AreKnown sent t = AreKnownTo sent t t.sites

-- the line is that of the first entry, by line, that does
pub record IsFirstUnknown (sent : BTreeSet SentVote) (t : TraceValue) (line : ℕ) : Type 0 where
  pub site : ℕ
  pub some : 0 < site
  pub within : site ≤ t.sites
  pub k : ℕ
  pub here : IsFirstUnknownIn sent (site_entries t.histories site) k
  pub before : AreKnownTo sent t (site - 1)
  pub line_is : line ≡ line_of_entry t site k
