-- What the program writes, and which status goes with it.
use Rattle.std.specs.Prelude.{◌≡◌, ◌⊎◌, ⊤, ℕ, List, [], ◌∷◌, ◌++◌, Option, Some, None, IfSome, codes, take}
use Rattle.std.specs.Io.KnownBytes.{Appends}
use Rattle.td_check.specs.Verdict.{IsVerdict}
use Rattle.td_check.specs.declared.verdict.Verdict.{Verdict}
use Rattle.td_reader.specs.declared.trace.TheConstants.{MAX_TRACE}
use Rattle.td_script.specs.Characters.{line_feed}
use Rattle.td_script.specs.Faults.{first_fault}
use Rattle.td_script.specs.KeptFaults.{first_kept_fault}
use Rattle.td_script.specs.KeptScript.{SpellsKept}
use Rattle.td_script.specs.LiveFaults.{first_live_fault}
use Rattle.td_script.specs.Kinds.{kind_name}
use Rattle.td_script.specs.LiveScript.{SpellsLive}
use Rattle.td_script.specs.Script.{Spells}
use Rattle.td_script.specs.Spelling.{spaced}
use Rattle.td_script.specs.declared.kept.script.KeptScript.{KeptScript}
use Rattle.td_script.specs.declared.kind.Kind.{Kind}
use Rattle.td_script.specs.declared.live.script.Live.{Live as LiveScript}
use Rattle.td_script.specs.declared.live.script.TheConstants.{MAX_LIVE_SCRIPT}
use Rattle.td_script.specs.declared.script.Script.{Script}
use Rattle.td_script.specs.declared.script.TheConstants.{MAX_SCRIPT}
use Rattle.td_live.specs.Live.{IsLiveTraceOf}
use Rattle.td_run.specs.declared.status.Status.{Status}
use Rattle.td_run.specs.declared.status.Status.TheVariants.{Done, Memory, Usage, Script as NoScript, Read, Write}
use Rattle.td_run.specs.declared.words.Language.{Language}
use Rattle.td_run.specs.declared.words.Language.TheVariants.{Play, Live, Kept, Trace}
use Rattle.td_run.specs.KeptPrinting.{IsKeptOutputOf}
use Rattle.td_run.specs.Outputs.{IsOutputOf, IsSummary}
use Rattle.td_run.specs.VerdictLine.{verdict_line}
use Rattle.td_run.specs.Words.{IsReading, IsGen, IsForm}

abbrev pub usage_line : List ℕ
usage_line = codes "usage: treedoc play | live | kept | check | gen SIZE NUMBER\n"

abbrev pub fault_line : ℕ → Kind → List ℕ
fault_line number kind = codes "fault" ++ (spaced number ++ (codes " " ++ (kind_name kind ++ line_feed ∷ [])))

-- ---- by the language of an input

-- how many bytes an input can have
abbrev pub most_bytes : Language → ℕ
most_bytes Play = MAX_SCRIPT
most_bytes Live = MAX_LIVE_SCRIPT
most_bytes Kept = MAX_SCRIPT
most_bytes Trace = MAX_TRACE

-- the input is in the language: whatever it is, there is a verdict on it as a trace
abbrev pub IsInLanguage : Language → List ℕ → Type 0
IsInLanguage Play input = (script : Script) × Spells input script
IsInLanguage Live input = (script : LiveScript) × SpellsLive input script
IsInLanguage Kept input = (script : KeptScript) × SpellsKept input script
IsInLanguage Trace input = ⊤

-- the first faulty line with its first fault; what is wrong with a trace is told by the verdict
abbrev pub first_fault_in : Language → List ℕ → Option (ℕ × Kind)
first_fault_in Play input = first_fault input
first_fault_in Live input = first_live_fault input
first_fault_in Kept input = first_kept_fault input
first_fault_in Trace input = None

-- the bytes are what the script or the kept script prints that the input spells, or the trace of what the live script
-- came to, or the line of the verdict on the input
abbrev pub IsOutputFor : Language → List ℕ → List ℕ → Type 0
IsOutputFor Play input bytes = (script : Script) × Spells input script × IsOutputOf script bytes
IsOutputFor Live input bytes = (script : LiveScript) × SpellsLive input script × IsLiveTraceOf script bytes
IsOutputFor Kept input bytes = (script : KeptScript) × SpellsKept input script × IsKeptOutputOf script bytes
IsOutputFor Trace input bytes = (verdict : Verdict) × IsVerdict input verdict × (bytes ≡ verdict_line verdict)

-- the input is no script, and the bytes name its first faulty line with its first fault
abbrev pub IsInputRefused : Language → List ℕ → List ℕ → Type 0
IsInputRefused language input bytes =
    (number : ℕ) × (kind : Kind) × (first_fault_in language input ≡ Some (number, kind))
    × (bytes ≡ fault_line number kind)

-- ---- by the words

-- the whole output for the words, and for the input, where that is told
abbrev pub IsOutput : List (List ℕ) → Option (List ℕ) → List ℕ → Type 0
IsOutput words input bytes =
    ((language : Language) × IsReading words language × IfSome input (λ told. IsOutputFor language told bytes))
    ⊎ ((size number : ℕ) × IsGen words size number × IsSummary size number bytes)

-- the whole output that goes with a status
abbrev pub IsWholeOutput : List (List ℕ) → Option (List ℕ) → Status → List ℕ → Type 0
IsWholeOutput words input Done bytes = IsOutput words input bytes
IsWholeOutput words input Usage bytes = (¬ IsForm words) × (bytes ≡ usage_line)
IsWholeOutput words input NoScript bytes =
    (language : Language) × IsReading words language × IfSome input (λ told. IsInputRefused language told bytes)
IsWholeOutput words input Memory bytes = ⊥
IsWholeOutput words input Read bytes = ⊥
IsWholeOutput words input Write bytes = ⊥

-- the whole output was put
abbrev pub PutsWhole : (List ℕ → Type 0) → Option (List ℕ) → Option (List ℕ) → Type 0
PutsWhole IsIt old new = (bytes : List ℕ) × IsIt bytes × Appends old new bytes

-- a front of the bytes was put
abbrev pub PutsFront : Option (List ℕ) → Option (List ℕ) → List ℕ → Type 0
PutsFront old new bytes = (n : ℕ) × Appends old new (take n bytes)
