-- What the entries of a site say that it made, entry by entry.
use Rattle.std.specs.Prelude.{List, ℕ, Option, option_and_then, fold}
use Rattle.td_trace.specs.declared.entry.TraceEntry.{TraceEntry}
use Rattle.td_law_replay.specs.Counting.{Count, no_count, count_entry, deps_from}
use Rattle.td_law_replay.specs.Counting.{in_vector}
use Rattle.td_seat.specs.OwnOps.{AreOwnOps}
use Rattle.td_seat.specs.Votes.{AreVotes}
use Rattle.td_seat.specs.declared.counted.Counted.{Counted}

-- what is counted along the entries
abbrev pub count_all : ℕ → ℕ → List TraceEntry → Count
count_all site n entries = fold (count_entry site n) (no_count n) entries

-- the vector of the q-th operation, where the entries tell one
abbrev pub told_deps : ℕ → ℕ → List TraceEntry → ℕ → Option (List ℕ)
told_deps site n entries q = option_and_then in_vector (deps_from site n q (no_count n) entries)

-- the entries of a site, of n, are counted
pub record AreCounted (site n : ℕ) (entries : List TraceEntry) (counted : Counted) : Type 0 where
  pub ops : AreOwnOps site n (count_all site n entries).have (told_deps site n entries) counted.ops
  pub votes : AreVotes (count_all site n entries).yes (count_all site n entries).no counted.votes
