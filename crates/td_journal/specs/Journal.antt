-- Journals: what they are as bytes, in both formats.
use Rattle.std.specs.Prelude.{◌⊎◌, ℕ, List, [], ◌∷◌, ◌++◌, length, map, codes}
use Rattle.std.specs.Int.{w16, w32, to_be_bytes}
use Rattle.td_op.specs.declared.entry.Entry.{Entry}
use Rattle.td_op.specs.declared.input.Input.{Input}
use Rattle.td_disk.specs.Gated.{Stands}
use Rattle.td_crc.specs.Crc.{crc32c}
use Rattle.td_input.specs.Spelling.{input_bytes}
use Rattle.td_journal.specs.declared.format.Format.{Format}
use Rattle.td_journal.specs.declared.format.Format.TheVariants.{Plain, Checked}

abbrev pub mark : Format → List ℕ
mark Plain = codes "TJ1"
mark Checked = codes "TJ2"

-- the check of these bytes, where the format has one
abbrev pub check_of : Format → List ℕ → List ℕ
check_of Plain bytes = []
check_of Checked bytes = to_be_bytes w32 (crc32c bytes)

-- the mark, the site and the number of sites
abbrev pub header : Format → ℕ → ℕ → List ℕ
header f site n = mark f ++ site ∷ n ∷ []

abbrev pub first_check : Format → ℕ → ℕ → List ℕ
first_check f site n = check_of f (header f site n)

abbrev pub head_bytes : Format → ℕ → ℕ → List ℕ
head_bytes f site n = header f site n ++ first_check f site n

-- the length and the input
abbrev pub body_bytes : Input → List ℕ
body_bytes input = to_be_bytes w16 (length (input_bytes input)) ++ input_bytes input

-- the check of a record goes on from the one before it
abbrev pub next_check : Format → List ℕ → Input → List ℕ
next_check f before input = check_of f (before ++ body_bytes input)

-- an open gate, the length and the input, and the check
abbrev pub record_bytes : Format → List ℕ → Input → List ℕ
record_bytes f before input = 1 ∷ body_bytes input ++ next_check f before input

-- a record for each input, behind this check
abbrev pub records_bytes : Format → List ℕ → List Input → List ℕ
records_bytes f before [] = []
records_bytes f before (input ∷ inputs) =
    record_bytes f before input ++ records_bytes f (next_check f before input) inputs

-- the check behind them
abbrev pub last_check : Format → List ℕ → List Input → List ℕ
last_check f before [] = before
last_check f before (input ∷ inputs) = last_check f (next_check f before input) inputs

abbrev pub journal_bytes : Format → ℕ → ℕ → List Input → List ℕ
journal_bytes f site n inputs = head_bytes f site n ++ records_bytes f (first_check f site n) inputs

abbrev pub journal_check : Format → ℕ → ℕ → List Input → List ℕ
journal_check f site n inputs = last_check f (first_check f site n) inputs

-- the file is a journal of these inputs: behind them stand a closed gate and any bytes
abbrev pub IsJournal : Format → ℕ → ℕ → List Input → List ℕ → Type 0
IsJournal f site n inputs file = Stands (journal_bytes f site n inputs) file

-- the file is a journal of these inputs, or of those
abbrev pub IsJournalOfEither : Format → ℕ → ℕ → List Input → List Input → List ℕ → Type 0
IsJournalOfEither f site n inputs others file = IsJournal f site n inputs file ⊎ IsJournal f site n others file

abbrev pub inputs_of : List Entry → List Input
inputs_of entries = map (λ (e : Entry). e.input) entries
