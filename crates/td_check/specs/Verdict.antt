-- The verdict on bytes: the first that applies, from what is written and from the replay of what that tells.
use Rattle.std.specs.Prelude.{◌≡◌, ◌<◌, ◌≤◌, ◌⊎◌, ℕ, List, length}
use Rattle.td_reader.specs.Form.{IsTraceOf, IsFaultyForm, cut_lines}
use Rattle.td_reader.specs.LineNumbers.{line_of_end}
use Rattle.td_reader.specs.Values.{TraceValue}
use Rattle.td_reader.specs.declared.trace.TheConstants.{MAX_TRACE}
use Rattle.td_law_replay.specs.Accepted.{IsLiveTrace}
use Rattle.td_law_replay.specs.Judging.{States}
use Rattle.td_check.specs.declared.verdict.Fault.{Fault}
use Rattle.td_check.specs.declared.verdict.Fault.TheVariants.{Size, Form, Alone, Text, Open}
use Rattle.td_check.specs.declared.verdict.Verdict.{Verdict}
use Rattle.td_check.specs.declared.verdict.Verdict.TheVariants.{Yes, No}
use Rattle.td_check.specs.Stops.{Stops}
use Rattle.td_check.specs.Findings.{IsReplayedWith, IsFirstDeed, AreAllLogs, IsFirstAlone, NoneAlone, IsFirstText}
use Rattle.td_check.specs.Findings.{AreAllTexts, AreSettledStates}

-- what is found of a trace of one site or more
pub data IsFinding (t : TraceValue) : Verdict → Type 0 where
  OfStop : {line : ℕ} {fault : Fault} → Stops t line fault → IsFinding t (No line fault)
  OfDeed : {last : States} {text_at : ℕ → ℕ → List ℕ} {line : ℕ} {fault : Fault} → IsReplayedWith t last text_at
      → IsFirstDeed t text_at line fault → IsFinding t (No line fault)
  OfAlone : {last : States} {text_at : ℕ → ℕ → List ℕ} {line : ℕ} → IsReplayedWith t last text_at → AreAllLogs t text_at
      → IsFirstAlone t line → IsFinding t (No line Alone)
  OfText : {last : States} {text_at : ℕ → ℕ → List ℕ} {line : ℕ} → IsReplayedWith t last text_at → AreAllLogs t text_at
      → NoneAlone t → IsFirstText t last line → IsFinding t (No line Text)
  OfOpen : {last : States} {text_at : ℕ → ℕ → List ℕ} → IsReplayedWith t last text_at → AreAllLogs t text_at
      → NoneAlone t → AreAllTexts t last → ¬ AreSettledStates t last → IsFinding t (No (line_of_end t) Open)
  OfNone : {last : States} {text_at : ℕ → ℕ → List ℕ} → IsReplayedWith t last text_at → AreAllLogs t text_at
      → NoneAlone t → AreAllTexts t last → AreSettledStates t last → IsFinding t Yes

pub data IsVerdict (bytes : List ℕ) : Verdict → Type 0 where
  TooLong : MAX_TRACE < length bytes → IsVerdict bytes (No 0 Size)
  NoTrace : {line : ℕ} → length bytes ≤ MAX_TRACE → IsFaultyForm (cut_lines bytes) line
      → IsVerdict bytes (No line Form)
  OfNoSite : length bytes ≤ MAX_TRACE → (t : TraceValue) → IsTraceOf bytes t → t.sites ≡ 0 → IsVerdict bytes Yes
  OfTrace : {verdict : Verdict} → length bytes ≤ MAX_TRACE → (t : TraceValue) → IsTraceOf bytes t → 0 < t.sites
      → IsFinding t verdict → IsVerdict bytes verdict

-- the bytes are the trace of no site, or that of a live family
pub record IsPossible (bytes : List ℕ) : Type 0 where
  pub short : length bytes ≤ MAX_TRACE
  pub value : TraceValue
  pub is : IsTraceOf bytes value
  pub live : (value.sites ≡ 0) ⊎ IsLiveTrace value.histories value.logs value.texts
