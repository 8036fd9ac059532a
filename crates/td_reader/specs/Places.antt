-- Where the lines of a trace stand, and what is told there.
use Rattle.std.specs.Prelude.{◌≡◌, ◌<◌, ◌+◌, ◌^◌, ℕ, List, [], ◌∷◌, Some, None, drop, length}
use Rattle.td_report.specs.Trace.{all_written}
use Rattle.td_report.specs.TraceLines.{TraceLine, written}
use Rattle.td_reader.specs.Collected.{told_by}
use Rattle.td_reader.specs.Form.{said}
use Rattle.td_reader.specs.Lines.{line_at}
use Rattle.td_reader.specs.Parts.{begins_of, part_sizes}
use Rattle.td_reader.specs.Reading.{Reading}
use Rattle.td_reader.specs.Values.{TraceValue, IsTraceValue}

-- where each of the lines begins, the first at this place
abbrev pub starts_of : ℕ → List TraceLine → List ℕ
starts_of at [] = []
starts_of at (line ∷ lines) = at ∷ starts_of (at + length (written line)) lines

-- the line that was read, if any, in front of others
abbrev pub onto_lines : Reading TraceLine → List TraceLine → List TraceLine
onto_lines None lines = lines
onto_lines (Some read) lines = read.0 ∷ lines

-- the lines that are read at these places
abbrev pub lines_at : List ℕ → List ℕ → List TraceLine
lines_at bytes [] = []
lines_at bytes (start ∷ starts) = onto_lines (line_at (drop start bytes)) (lines_at bytes starts)

-- the value that they tell
unfoldable pub value_at : List ℕ → List ℕ → TraceValue
value_at bytes starts = told_by (lines_at bytes starts)

-- the bytes are a trace, whose lines begin at these places
pub record HasLinesAt (bytes starts : List ℕ) : Type 0 where
  pub value : TraceValue
  pub is : IsTraceValue value
  pub whole : bytes ≡ all_written (said value)
  pub placed : starts ≡ starts_of 0 (said value)

-- the bytes are a trace of so many sites, whose lines begin at these places, and its parts at these lines
pub record HasPartsAt (bytes starts parts : List ℕ) (sites : ℕ) : Type 0 where
  pub lines : HasLinesAt bytes starts
  pub parts_are : parts ≡ begins_of 1 (part_sizes lines.value)
  pub sites_are : sites ≡ lines.value.sites
  pub few : length (said lines.value) < 2 ^ 32
