-- The form of a trace: which bytes are a trace of which value, and the first line that is not of the form. It speaks
-- of what is written, and of no reader.
use Rattle.std.specs.Prelude.{◌≡◌, ◌≢◌, ◌<◌, ◌+◌, ◌⊎◌, ◌++◌, ◌==◌, ℕ, List, [], ◌∷◌, length, map, take, if◌then◌else◌}
use Rattle.td_report.specs.Trace.{trace, trace_said}
use Rattle.td_report.specs.TraceLines.{TraceLine, written}
use Rattle.td_script.specs.Characters.{line_feed}
use Rattle.td_script.specs.Lines.{onto_first}
use Rattle.td_reader.specs.Values.{TraceValue, IsTraceValue}

-- what the lines of a trace say
abbrev pub said : TraceValue → List TraceLine
said t = trace_said t.sites t.histories t.logs t.texts

-- the bytes of a trace
abbrev pub trace_bytes : TraceValue → List ℕ
trace_bytes t = trace t.sites t.histories t.logs t.texts

-- the bytes are the trace of this value
abbrev pub IsTraceOf : List ℕ → TraceValue → Type 0
IsTraceOf bytes t = IsTraceValue t × (bytes ≡ trace_bytes t)

-- the lines of a trace, each with its LF
abbrev pub trace_lines : TraceValue → List (List ℕ)
trace_lines t = map written (said t)

-- the bytes, cut behind each LF; what is left behind the last LF stands at the end, and is no line of any trace
abbrev pub cut_lines : List ℕ → List (List ℕ)
cut_lines [] = []
cut_lines (byte ∷ bytes) =
    if byte == line_feed then (byte ∷ []) ∷ cut_lines bytes else onto_first byte (cut_lines bytes)

-- these lines are the first of some trace
pub record IsBeginning (lines : List (List ℕ)) : Type 0 where
  pub whole : TraceValue
  pub is : IsTraceValue whole
  pub behind : List (List ℕ)
  pub splits : trace_lines whole ≡ lines ++ behind

-- no trace has these lines and no others
abbrev pub IsUnended : List (List ℕ) → Type 0
IsUnended lines = (t : TraceValue) → IsTraceValue t → trace_lines t ≢ lines

-- the line with this number, from 1, is the first that is not of the form: the lines before it begin a trace, and with
-- it they do not, or it is missing
pub record IsFaultyForm (lines : List (List ℕ)) (number : ℕ) : Type 0 where
  pub before : ℕ
  pub is : number ≡ before + 1
  pub good : IsBeginning (take before lines)
  pub bad : ((before < length lines) × ¬ IsBeginning (take (before + 1) lines))
      ⊎ ((before ≡ length lines) × IsUnended lines)
