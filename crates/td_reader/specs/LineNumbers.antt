-- Which number a line of a trace has, from 1.
use Rattle.std.specs.Prelude.{◌≡◌, ◌<◌, ◌+◌, ◌-◌, ℕ, List, [], ◌∷◌, Some, get_or, length, slice_get, take}
use Rattle.td_trace.specs.declared.entry.TraceEntry.{TraceEntry}
use Rattle.td_trace.specs.declared.log.Did.{Did}
use Rattle.td_trace.specs.declared.log.EditorLog.{EditorLog}
use Rattle.td_report.specs.Trace.{did_said}
use Rattle.td_report.specs.TraceLines.{EntryIs, TextIs, Ended}
use Rattle.td_reader.specs.Form.{said}
use Rattle.td_reader.specs.Values.{TraceValue}

-- how many lines these parts have: one for each, and so many below it
abbrev pub part_lines : {X : Type 0} → (X → ℕ) → List X → ℕ
part_lines below [] = 0
part_lines below (part ∷ parts) = 1 + below part + part_lines below parts

-- how many lines these histories have: one for each and one for each of its entries
abbrev pub history_lines : List (List TraceEntry) → ℕ
history_lines histories = part_lines length histories

-- the number of what an editor did
abbrev pub did_count : EditorLog → ℕ
did_count log = length log.did

-- how many lines these editors have: one for each and one for each of its calls and looks
abbrev pub log_lines : List EditorLog → ℕ
log_lines logs = part_lines did_count logs

-- the line of the entry k of a site, from 1
abbrev pub line_of_entry : TraceValue → ℕ → ℕ → ℕ
line_of_entry t site k = 1 + history_lines (take (site - 1) t.histories) + 1 + k

-- the line of what this editor did as its jth, both from 1
abbrev pub line_of_did : TraceValue → ℕ → ℕ → ℕ
line_of_did t editor j = 1 + history_lines t.histories + log_lines (take (editor - 1) t.logs) + 1 + j

-- the line of the text of a site
abbrev pub line_of_text : TraceValue → ℕ → ℕ
line_of_text t site = 1 + history_lines t.histories + log_lines t.logs + site

-- the last line
abbrev pub line_of_end : TraceValue → ℕ
line_of_end t = 1 + history_lines t.histories + log_lines t.logs + length t.texts + 1

-- each line of the value has the number that is said
pub record LinesAreNumbered (t : TraceValue) : Type 0 where
  pub entries : (site k : ℕ) (entry : TraceEntry) → 0 < site → 0 < k
      → slice_get (get_or t.histories (site - 1) []) (k - 1) ≡ Some entry
      → slice_get (said t) (line_of_entry t site k - 1) ≡ Some (EntryIs k entry)
  pub dids : (editor j : ℕ) (log : EditorLog) (did : Did) → 0 < editor → 0 < j
      → slice_get t.logs (editor - 1) ≡ Some log → slice_get log.did (j - 1) ≡ Some did
      → slice_get (said t) (line_of_did t editor j - 1) ≡ Some (did_said did)
  pub texts : (site : ℕ) (text : List ℕ) → 0 < site → slice_get t.texts (site - 1) ≡ Some text
      → slice_get (said t) (line_of_text t site - 1) ≡ Some (TextIs site text)
  pub end : slice_get (said t) (line_of_end t - 1) ≡ Some Ended
