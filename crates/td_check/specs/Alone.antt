-- How many calls are an entry, counted up to 255.
use Rattle.std.specs.Prelude.{◌≡◌, ◌<◌, ◌+◌, ◌-◌, ◌==◌, [], ℕ, suc, List, Some, get_or, if◌then◌else◌, length}
use Rattle.std.specs.Prelude.{min, slice_get, slice_index}
use Rattle.std.specs.declared.alloc.Global.{Global}
use Rattle.std.specs.declared.vec.Vec.{Vec}
use Rattle.td_trace.specs.Editors.{site_calls_at}
use Rattle.td_trace.specs.declared.log.EditorLog.{EditorLog}
use Rattle.td_reader.specs.LineNumbers.{line_of_entry}
use Rattle.td_reader.specs.Values.{TraceValue}
use Rattle.td_check.specs.Findings.{IsAlone}

-- at each place stands its count, or 255 where that is more
abbrev pub AreCounts : (ℕ → ℕ) → List ℕ → Type 0
AreCounts counts row = (i : ℕ) → i < length row → slice_index row i ≡ min (counts i) 255

-- one more at the entry with this number, from 1
abbrev pub counted_at : ℕ → (ℕ → ℕ) → ℕ → ℕ
counted_at entry counts i = if entry == i + 1 then suc (counts i) else counts i

-- the row has a place for each entry of the site, with the number of calls of these editors that are this entry
pub record IsRowOfCalls (t : TraceValue) (logs : List EditorLog) (site : ℕ) (row : List ℕ) : Type 0 where
  pub size : length row ≡ length (get_or t.histories (site - 1) [])
  pub counts : AreCounts (λ (i : ℕ). site_calls_at site (i + 1) logs) row

-- there is a row for each of the first so many sites
pub record AreRows (t : TraceValue) (logs : List EditorLog) (sites : ℕ) (rows : List (Vec ℕ Global)) : Type 0 where
  pub each : length rows ≡ sites
  pub row : (i : ℕ) (row : Vec ℕ Global) → slice_get rows i ≡ Some row → IsRowOfCalls t logs (i + 1) row.items

-- the first request of the site that is not the entry of exactly one call
pub record IsFirstAloneAt (t : TraceValue) (site line : ℕ) : Type 0 where
  pub k : ℕ
  pub is : IsAlone t site k
  pub before : (j : ℕ) → j < k → ¬ IsAlone t site j
  pub line_is : line ≡ line_of_entry t site k
