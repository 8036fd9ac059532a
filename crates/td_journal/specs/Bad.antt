-- Where bytes stop being a journal of a site among n.
use Rattle.std.specs.Prelude.{◌≡◌, ◌≢◌, ◌⊎◌, ◌+◌, ◌<◌, ◌==◌, ℕ, List, ◌∷◌, ◌++◌}
use Rattle.std.specs.Prelude.{length, take, slice_index, if◌then◌else◌}
use Rattle.std.specs.List.{AllByRecursion}
use Rattle.td_op.specs.declared.input.Input.{Input}
use Rattle.td_input.specs.Spelling.{CanWrite}
use Rattle.td_journal.specs.declared.format.Format.{Format}
use Rattle.td_journal.specs.declared.format.Format.TheVariants.{Plain, Checked}
use Rattle.td_journal.specs.Journal.{header, head_bytes, record_bytes, journal_bytes, journal_check}

-- the format that the third byte tells: that with checks where it is `2`
abbrev pub format_in : List ℕ → Format
format_in bytes = if slice_index bytes 2 == 50 then Checked else Plain

-- the bytes begin with this
abbrev pub Begins : List ℕ → List ℕ → Type 0
Begins front bytes = (rest : List ℕ) × (bytes ≡ front ++ rest)

-- the bytes have so many of the header's in front, and not one more
pub record DiffersAt (bytes header : List ℕ) (at : ℕ) : Type 0 where
  pub within : at < length header
  pub before : take at bytes ≡ take at header
  pub here : take (at + 1) bytes ≢ take (at + 1) header

-- the header is there, and its check is not behind it
pub record LacksCheck (f : Format) (site n : ℕ) (bytes : List ℕ) (at : ℕ) : Type 0 where
  pub begins : Begins (header f site n) bytes
  pub lacks : ¬ Begins (head_bytes f site n) bytes
  pub place : at ≡ length (header f site n)

-- behind a journal of some inputs stand no record, of whatever input, and no closed gate
pub record LacksRecord (f : Format) (site n : ℕ) (bytes : List ℕ) (at : ℕ) : Type 0 where
  pub inputs : List Input
  pub rest : List ℕ
  pub can : AllByRecursion CanWrite inputs
  pub is : bytes ≡ journal_bytes f site n inputs ++ rest
  pub no_record : (input : Input) → CanWrite input
      → ¬ Begins (record_bytes f (journal_check f site n inputs) input) rest
  pub no_gate : (gate : ℕ) (more : List ℕ) → gate ≢ 1 → rest ≢ gate ∷ more
  pub place : at ≡ length (journal_bytes f site n inputs)

-- the byte of the header that differs has this place; where the header is there and its check is not, the first byte
-- behind the header
abbrev pub IsBadHeadAt : ℕ → ℕ → List ℕ → ℕ → Type 0
IsBadHeadAt site n bytes at =
    DiffersAt bytes (header (format_in bytes) site n) at ⊎ LacksCheck (format_in bytes) site n bytes at

-- the first part of the bytes that is none of a journal begins here
abbrev pub IsBadAt : ℕ → ℕ → List ℕ → ℕ → Type 0
IsBadAt site n bytes at = IsBadHeadAt site n bytes at ⊎ LacksRecord (format_in bytes) site n bytes at
