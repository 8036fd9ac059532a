-- The arguments of the lines of a trace, read from the front of bytes.
use Rattle.std.specs.Prelude.{◌≡◌, ℕ, suc, zero, ◌&&◌, ◌==◌, ◌||◌, Bool, true, false, nat_le, nat_lt, not}
use Rattle.std.specs.Prelude.{List, [], ◌∷◌, Option, Some, None, codes, length, bytes_eq, if◌then◌else◌}
use Rattle.std.specs.Char.{is_ascii_digit}
use Rattle.std.specs.Fmt.{decimal}
use Rattle.std.specs.List.{concat, flat_map}
use Rattle.std.specs.Str.{IsUtf8, is_utf8}
use Rattle.std.specs.Str.Parse.{digits_value}
use Rattle.td_base.specs.Value.{DotValue, AtomIdValue}
use Rattle.td_base.specs.declared.atom.TheConstants.{MAX_ATOM_LEN}
use Rattle.td_base.specs.declared.atom_id.TheConstants.{MAX_OFFSET}
use Rattle.td_base.specs.declared.bit.Bit.{Bit}
use Rattle.td_base.specs.declared.bit.Bit.TheVariants.{Left, Right}
use Rattle.td_base.specs.declared.dot.TheConstants.{MAX_SEQ}
use Rattle.td_base.specs.declared.run.TheConstants.{MAX_RUN_LEN}
use Rattle.td_base.specs.declared.site.TheConstants.{MAX_SITE}
use Rattle.td_script.specs.Characters.{line_feed, quote, backslash}
use Rattle.td_script.specs.Texts.{escaped}
use Rattle.td_reader.specs.Reading.{Reading, ◌>>=◌, after, choose}

-- ---- numbers

-- a byte at the front of the first part
abbrev pub onto_front : ℕ → List ℕ × List ℕ → List ℕ × List ℕ
onto_front byte cut = (byte ∷ cut.0, cut.1)

-- the digits at the front, and what is left behind them
abbrev pub cut_digits : List ℕ → List ℕ × List ℕ
cut_digits [] = ([], [])
cut_digits (byte ∷ bytes) = if is_ascii_digit byte then onto_front byte (cut_digits bytes) else ([], byte ∷ bytes)

-- the number that is written in these digits, where it is at most so great
unfoldable pub number_of : ℕ → List ℕ → Option ℕ
number_of most digits =
    if bytes_eq digits (decimal (digits_value 10 digits)) && nat_le (digits_value 10 digits) most then
    Some (digits_value 10 digits)
    else None

-- a number that is at most so great
unfoldable pub number_at : ℕ → List ℕ → Reading ℕ
number_at most bytes = do
  number ← number_of most (cut_digits bytes).0
  Some (number, (cut_digits bytes).1)

-- a number in these bounds
unfoldable pub ranged_at : ℕ → ℕ → List ℕ → Reading ℕ
ranged_at least most bytes = do
  number ← number_at most bytes
  if nat_le least number.0 then Some number else None

-- an index, a length, a number of operations, and the number of an editor
unfoldable pub short_at : List ℕ → Reading ℕ
short_at bytes = number_at 0xffff_ffff bytes

-- the number of an entry and of a call
unfoldable pub long_at : List ℕ → Reading ℕ
long_at bytes = number_at 0xffff_ffff_ffff_ffff bytes

-- ---- sites, dots and identities

-- a site
unfoldable pub site_at : List ℕ → Reading ℕ
site_at bytes = ranged_at 1 MAX_SITE bytes

-- a dot: a site, a point, and the number of an operation
unfoldable pub dot_at : List ℕ → Reading DotValue
dot_at bytes = do
  site ← site_at bytes
  rest ← after (codes ".") site.1
  seq ← ranged_at 1 MAX_SEQ rest
  Some (record { site = site.0; seq = seq.0 }, seq.1)

-- the offset that stands behind `+`; 0 where there is none, and 0 is never written
unfoldable pub offset_at : List ℕ → Reading ℕ
offset_at bytes = choose (codes "+") bytes (ranged_at 1 MAX_OFFSET) (Some (0, bytes))

-- the identity of an atom
unfoldable pub identity_at : List ℕ → Reading AtomIdValue
identity_at bytes = do
  dot ← dot_at bytes
  offset ← offset_at dot.1
  Some (record { dot = dot.0; offset = offset.0 }, offset.1)

-- ---- texts, behind their opening quote

-- what may stand behind a backslash
abbrev pub is_escape : ℕ → Bool
is_escape byte = byte == quote || byte == backslash || byte == 0x6e

-- whether what follows the byte stands behind a backslash; None where the byte cannot stand there, maybe behind a
-- backslash itself
abbrev pub turned : Bool → ℕ → Option Bool
turned false byte = if byte == line_feed then None else Some (byte == backslash)
turned true byte = if is_escape byte then Some false else None

abbrev pub onto_raw : ℕ → Reading (List ℕ) → Reading (List ℕ)
onto_raw byte (Some read) = Some (onto_front byte read)
onto_raw byte None = None

-- the byte, and what is read behind it
abbrev pub byte_then : ℕ → Option Bool → (Bool → Reading (List ℕ)) → Reading (List ℕ)
byte_then byte None read = None
byte_then byte (Some is_escaped) read = onto_raw byte (read is_escaped)

-- a text as it stands up to its closing quote, maybe behind a backslash, and what is left behind that quote
abbrev pub raw_at : Bool → List ℕ → Reading (List ℕ)
raw_at is_escaped [] = None
raw_at is_escaped (byte ∷ bytes) =
    if not is_escaped && byte == quote then Some ([], bytes) else
    byte_then byte (turned is_escaped byte) (λ is_escaped. raw_at is_escaped bytes)

-- the byte that stands behind a backslash: `n` stands for LF, and others for themselves
abbrev pub unescaped : ℕ → ℕ
unescaped byte = if byte == 0x6e then line_feed else byte

-- the text that stands so, maybe behind a backslash
abbrev pub plain : Bool → List ℕ → List ℕ
plain is_escaped [] = []
plain false (byte ∷ raw) = if byte == backslash then plain true raw else byte ∷ plain false raw
plain true (byte ∷ raw) = unescaped byte ∷ plain false raw

-- it is how a text of UTF-8 is written between its quotes
pub record IsRaw (raw : List ℕ) : Type 0 where
  pub written : raw ≡ flat_map escaped (plain false raw)
  pub utf8 : IsUtf8 (plain false raw)

abbrev pub plain_read : Reading (List ℕ) → Reading (List ℕ)
plain_read None = None
plain_read (Some read) = if is_utf8 read.0 then Some (plain false read.0, read.1) else None

-- a text of UTF-8
unfoldable pub text_at : List ℕ → Reading (List ℕ)
text_at bytes = plain_read (raw_at false bytes)

abbrev pub is_atom_len : ℕ → Bool
is_atom_len len = nat_lt 0 len && nat_le len MAX_ATOM_LEN

-- an atom
unfoldable pub atom_at : List ℕ → Reading (List ℕ)
atom_at bytes = do
  text ← text_at bytes
  if is_atom_len (length text.0) then Some text else None

-- an atom in its quotes, behind a space
unfoldable pub spaced_atom_at : List ℕ → Reading (List ℕ)
spaced_atom_at bytes = after (codes " \"") bytes >>= atom_at

-- atoms, each in its quotes behind a space, as many as stand there but at most so many
unfoldable pub atoms_upto : ℕ → List ℕ → Reading (List (List ℕ))
atoms_upto zero bytes = Some ([], bytes)
atoms_upto (suc most) bytes =
    choose (codes " \"") bytes (λ inner. atom_at inner >>= (λ atom. atoms_upto most atom.1
    >>= (λ atoms. Some (atom.0 ∷ atoms.0, atoms.1)))) (Some ([], bytes))

abbrev pub is_run : List (List ℕ) → Bool
is_run atoms = nat_lt 0 (length atoms) && nat_le (length (concat atoms)) MAX_RUN_LEN

-- the atoms of a run
unfoldable pub run_at : List ℕ → Reading (List (List ℕ))
run_at bytes = do
  atoms ← atoms_upto MAX_RUN_LEN bytes
  if is_run atoms.0 then Some atoms else None

-- a side, behind a space
unfoldable pub bit_at : List ℕ → Reading Bit
bit_at bytes =
    choose (codes " left") bytes (λ rest. Some (Left, rest))
    (choose (codes " right") bytes (λ rest. Some (Right, rest)) None)
