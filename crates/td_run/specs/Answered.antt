-- What a run of the program promises: its status, what it read and what it wrote.
use Rattle.std.specs.Prelude.{◌≡◌, ◌≤◌, ◌+◌, ◌⊎◌, ℕ, List, Some}
use Rattle.td_io.specs.declared.source.Source as source
use Rattle.td_io.specs.declared.sink.Sink as sink
use Rattle.td_io.specs.Count.{Rose}
use Rattle.td_io.specs.Reading.{IsReadPast, IsReadToEnd}
use Rattle.td_run.specs.declared.status.Status.{Status}
use Rattle.td_run.specs.declared.status.Status.TheVariants.{Done, Memory, Usage, Script, Read, Write}
use Rattle.td_run.specs.declared.words.Language.{Language}
use Rattle.td_run.specs.declared.words.Language.TheVariants.{Play}
use Rattle.td_run.specs.Answer.{IsInLanguage, IsOutput, IsWholeOutput, PutsWhole, PutsFront, most_bytes}
use Rattle.td_run.specs.Answering.{IsReadFor}
use Rattle.td_run.specs.Words.{IsReading, ReadsInput, IsGen, IsForm}

-- by what the source and the sink tell of themselves: of the words, the source before and after, the sink before and
-- after, and the status
pub record IsRunOf {S K : Type 0} (s : source.Ghosts S) (k : sink.Ghosts K) (words : List (List ℕ)) (old new : S)
    (before after : K) (status : Status) : Type 0 where
  -- Done, Usage, Script: the whole output that goes with the status was put
  pub whole : (status ≡ Done) ⊎ (status ≡ Usage) ⊎ (status ≡ Script)
      → PutsWhole (IsWholeOutput words (s.left old) status) (k.held before) (k.held after)
  -- Read: the source failed, and nothing was put
  pub read : status ≡ Read → ReadsInput words × Rose (s.faults old) (s.faults new) × (k.held after ≡ k.held before)
  -- Write: the sink failed, and took a front of what goes with the status that the run would have had
  pub write : status ≡ Write → Rose (k.faults before) (k.faults after) × ((whole : Status) × (bytes : List ℕ)
      × IsWholeOutput words (s.left old) whole bytes × PutsFront (k.held before) (k.held after) bytes)
  -- Memory: nothing was put, or a front of what a script prints
  pub memory : status ≡ Memory → IsForm words × ((k.held after ≡ k.held before)
      ⊎ (IsReading words Play × ((bytes : List ℕ) × IsOutput words (s.left old) bytes
      × PutsFront (k.held before) (k.held after) bytes)))
  -- words that are no command are a usage refusal, or its line could not be put
  pub other_words : ¬ IsForm words → (status ≡ Usage) ⊎ (status ≡ Write)
  -- words that ask for no input read nothing: the source is as before
  pub unread : ¬ ReadsInput words → new ≡ old
  -- a script is played once the input was read to its end; there is a verdict on a trace then too, or where more was
  -- read than a trace can have
  pub read_to_end : status ≡ Done → (language : Language) → IsReading words language → IsReadFor s language old new
  -- before anything is put for an input, it was read to its end, or past the bytes that it can have
  pub read_whole : (language : Language) → IsReading words language → (status ≡ Script) ⊎ (status ≡ Write)
      → IsReadToEnd s old new ⊎ IsReadPast s (most_bytes language) old new
  -- the source is called no oftener than this
  pub turns : (language : Language) → IsReading words language
      → s.calls new ≤ s.calls old + (most_bytes language + 1)
  -- a script is played to its end, and any input is judged as a trace, where neither the source nor the sink fails,
  -- unless memory runs out
  pub complete : (language : Language) (input : List ℕ) → IsReading words language
      → s.left old ≡ Some input → IsInLanguage language input
      → (¬ Rose (s.faults old) (s.faults new)) → (¬ Rose (k.faults before) (k.faults after))
      → (status ≡ Done) ⊎ (status ≡ Memory)
  -- and so is a generated one
  pub generated : (size number : ℕ) → IsGen words size number → (¬ Rose (k.faults before) (k.faults after))
      → (status ≡ Done) ⊎ (status ≡ Memory)
