-- The words of the command line.
use Rattle.std.specs.Prelude.{◌≡◌, ◌≤◌, ◌<◌, ◌^◌, ◌⊎◌, ℕ, List, [], ◌∷◌, codes}
use Rattle.std.specs.Fmt.{decimal}
use Rattle.td_run.specs.declared.words.Form.{Form}
use Rattle.td_run.specs.declared.words.Form.TheVariants.{Reads, Gen}
use Rattle.td_run.specs.declared.words.Language.{Language}
use Rattle.td_run.specs.declared.words.Language.TheVariants.{Play, Live, Kept, Trace}
use Rattle.td_gen.specs.declared.generator.TheConstants.{MAX_SIZE}
use Rattle.td_script.specs.declared.number.TheConstants.{MAX_DIGITS}

-- the word by which an input is read in the language
abbrev pub word_of : Language → List ℕ
word_of Play = codes "play"
word_of Live = codes "live"
word_of Kept = codes "kept"
word_of Trace = codes "check"

-- the one word of a language
abbrev pub IsReading : List (List ℕ) → Language → Type 0
IsReading words language = words ≡ word_of language ∷ []

-- the word `gen`, a size and a number
pub record IsGen (words : List (List ℕ)) (size number : ℕ) : Type 0 where
  pub are : words ≡ codes "gen" ∷ decimal size ∷ decimal number ∷ []
  pub small : size ≤ MAX_SIZE
  pub short : number < 10 ^ MAX_DIGITS

-- an input is read
abbrev pub ReadsInput : List (List ℕ) → Type 0
ReadsInput words = (language : Language) × IsReading words language

-- the words are a command
abbrev pub IsForm : List (List ℕ) → Type 0
IsForm words = ReadsInput words ⊎ ((size number : ℕ) × IsGen words size number)

-- what they ask for
abbrev pub IsFormOf : List (List ℕ) → Form → Type 0
IsFormOf words (Reads language) = IsReading words language
IsFormOf words (Gen size number) = IsGen words size number
