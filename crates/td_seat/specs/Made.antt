-- What the entries of all sites say that these made.
use Rattle.std.specs.Prelude.{◌≡◌, ◌+◌, ℕ, List, length, Some, slice_get}
use Rattle.td_trace.specs.declared.entry.TraceEntry.{TraceEntry}
use Rattle.td_law_replay.specs.Traced.{site_entries}
use Rattle.td_seat.specs.Counted.{AreCounted}
use Rattle.td_seat.specs.declared.counted.Counted.{Counted}
use Rattle.td_seat.specs.declared.made.Made.{Made}

-- the entries of the first sites, of n, are counted, those of site s at place s - 1
pub record AreMade (n : ℕ) (all : List (List TraceEntry)) (made : Made) : Type 0 where
  pub sites : length made.sites.items ≡ length all
  pub each : (k : ℕ) (counted : Counted) → slice_get made.sites.items k ≡ Some counted
      → AreCounted (k + 1) n (site_entries all (k + 1)) counted

-- the entries of all sites are counted
abbrev pub IsMade : List (List TraceEntry) → Made → Type 0
IsMade all made = AreMade (length all) all made
