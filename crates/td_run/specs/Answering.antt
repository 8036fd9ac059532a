-- What a command comes to before anything is written.
use Rattle.std.specs.Prelude.{◌≡◌, ⊤, ◌≤◌, ◌+◌, ◌⊎◌, ℕ, List, Option, Result, Ok, Err, IfOk, IfSome, IsErrOf}
use Rattle.td_gen.specs.declared.generator.TheConstants.{MAX_SIZE}
use Rattle.std.specs.Io.KnownBytes.{Appends}
use Rattle.td_io.specs.declared.source.Source as source
use Rattle.td_io.specs.declared.sink.Sink as sink
use Rattle.td_io.specs.Count.{Rose}
use Rattle.td_io.specs.Reading.{IsReadPast, IsReadToEnd}
use Rattle.td_run.specs.declared.answer.Answer.{Answer}
use Rattle.td_run.specs.declared.answer.Stop.{Stop}
use Rattle.td_run.specs.declared.answer.Stop.TheVariants.{Read as Unread, Memory as NoMemory}
use Rattle.td_run.specs.declared.status.Status.{Status}
use Rattle.td_run.specs.declared.status.Status.TheVariants.{Done, Script, Memory, Read, Write}
use Rattle.td_run.specs.declared.words.Form.{Form}
use Rattle.td_run.specs.declared.words.Form.TheVariants.{Reads, Gen}
use Rattle.td_run.specs.declared.words.Language.{Language}
use Rattle.td_run.specs.declared.words.Language.TheVariants.{Play, Live, Kept, Trace}
use Rattle.td_run.specs.Answer.{IsOutputFor, IsInputRefused, PutsFront, most_bytes}
use Rattle.td_run.specs.Outputs.{IsSummary}

-- what is written for an input in the language, and the status that goes with it
abbrev pub IsPlayedOr : Language → List ℕ → Status → List ℕ → Type 0
IsPlayedOr language input Done bytes = IsOutputFor language input bytes
IsPlayedOr language input Script bytes = IsInputRefused language input bytes
IsPlayedOr language input status bytes = ⊥

-- what is written for a command, where the input may not be told
abbrev pub IsWholeOf : Form → Option (List ℕ) → Status → List ℕ → Type 0
IsWholeOf (Reads language) input Done bytes = IfSome input (λ told. IsOutputFor language told bytes)
IsWholeOf (Reads language) input Script bytes = IfSome input (λ told. IsInputRefused language told bytes)
IsWholeOf (Gen size number) input Done bytes = IsSummary size number bytes
IsWholeOf form input status bytes = ⊥

-- the generated script is not too large
abbrev pub IsAskable : Form → Type 0
IsAskable (Reads language) = ⊤
IsAskable (Gen size number) = size ≤ MAX_SIZE

-- the command reads an input in the language
abbrev pub IsReads : Form → Language → Type 0
IsReads form language = form ≡ Reads language

-- an input in the language was read as far as is asked where its output is written: to its end; that of a trace there,
-- or past the bytes that it can have
abbrev pub IsReadFor : {S : Type 0} → source.Ghosts S → Language → (old new : S) → Type 0
IsReadFor s Play old new = IsReadToEnd s old new
IsReadFor s Live old new = IsReadToEnd s old new
IsReadFor s Kept old new = IsReadToEnd s old new
IsReadFor s Trace old new = IsReadToEnd s old new ⊎ IsReadPast s (most_bytes Trace) old new

-- by what the source tells of itself: of the command, the source before and after, and what is to be written
pub record IsAnswerTo {S : Type 0} (s : source.Ghosts S) (form : Form) (old new : S) (result : Result Answer Stop)
    : Type 0 where
  pub whole : IfOk result (λ a. IsWholeOf form (s.left old) a.status a.bytes)
  pub read : IsErrOf result Unread → ((language : Language) × IsReads form language)
      × Rose (s.faults old) (s.faults new)
  -- a command that has no input reads nothing
  pub unread : ¬ ((language : Language) × IsReads form language) → new ≡ old
  pub to_end : IfOk result (λ a. a.status ≡ Done → (language : Language) → IsReads form language
      → IsReadFor s language old new)
  pub past : IfOk result (λ a. (language : Language) → IsReads form language
      → IsReadToEnd s old new ⊎ IsReadPast s (most_bytes language) old new)
  pub turns : (language : Language) → IsReads form language
      → s.calls new ≤ s.calls old + (most_bytes language + 1)

-- by what the sink tells of itself: the bytes were put, and the status is the one that goes with them; or the sink
-- failed, and took a front of them
abbrev pub AreBytesPut : {K : Type 0} → sink.Ghosts K → List ℕ → Status → (before after : K) → Status → Type 0
AreBytesPut k bytes whole before after status =
    ((status ≡ whole) × Appends (k.held before) (k.held after) bytes)
    ⊎ ((status ≡ Write) × Rose (k.faults before) (k.faults after) × PutsFront (k.held before) (k.held after) bytes)

-- what came of a command was put, where it has an output
abbrev pub IsAnswerPut : {K : Type 0} → sink.Ghosts K → Result Answer Stop → (before after : K) → Status → Type 0
IsAnswerPut k (Ok answer) before after status = AreBytesPut k answer.bytes answer.status before after status
IsAnswerPut k (Err Unread) before after status = (status ≡ Read) × (after ≡ before)
IsAnswerPut k (Err NoMemory) before after status = (status ≡ Memory) × (after ≡ before)

-- the same of an output that is put while it is made: memory may run out on the way
abbrev pub IsPutOnTheWay : {K : Type 0} → sink.Ghosts K → List ℕ → (before after : K) → Status → Type 0
IsPutOnTheWay k bytes before after status =
    AreBytesPut k bytes Done before after status ⊎ ((status ≡ Memory) × PutsFront (k.held before) (k.held after) bytes)

-- the same by what came of a script
abbrev pub IsEndedOnTheWay : {K : Type 0} → sink.Ghosts K → Result Answer Stop → (before after : K) → Status
    → Type 0
IsEndedOnTheWay k (Ok answer) before after status =
    AreBytesPut k answer.bytes answer.status before after status
    ⊎ ((status ≡ Memory) × (answer.status ≡ Done) × PutsFront (k.held before) (k.held after) answer.bytes)
IsEndedOnTheWay k (Err Unread) before after status = IsAnswerPut k (Err Unread) before after status
IsEndedOnTheWay k (Err NoMemory) before after status = IsAnswerPut k (Err NoMemory) before after status

-- the script that the input spells was played, or its fault was told
pub record IsInputPlayed {K : Type 0} (k : sink.Ghosts K) (input : List ℕ) (before after : K) (status : Status)
    : Type 0 where
  pub answer : Result Answer Stop
  pub is : IfOk answer (λ a. IsPlayedOr Play input a.status a.bytes)
  pub read : IsErrOf answer Unread → ⊥
  pub ended : IsEndedOnTheWay k answer before after status

-- the script of a source was
pub record IsPlayedInto {S K : Type 0} (s : source.Ghosts S) (k : sink.Ghosts K) (old new : S) (before after : K)
    (status : Status) : Type 0 where
  pub answer : Result Answer Stop
  pub is : IsAnswerTo s (Reads Play) old new answer
  pub ended : IsEndedOnTheWay k answer before after status
