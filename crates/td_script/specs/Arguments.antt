-- The arguments of commands, each with its own fault. An argument is read from what is left of a line, and leaves what
-- stands behind it.
use Rattle.std.specs.Prelude.{ℕ, Bool, true, false, ◌&&◌, ◌==◌, nat_le, nat_lt, if◌then◌else◌}
use Rattle.std.specs.Prelude.{List, [], ◌∷◌, Option, Some, None, Result, Ok, Err, codes, length, bytes_eq}
use Rattle.std.specs.Char.{is_ascii_digit}
use Rattle.std.specs.Int.{is_in_range}
use Rattle.std.specs.List.{list_all}
use Rattle.std.specs.Str.Parse.{digits_value}
use Rattle.td_base.specs.Value.{DotValue}
use Rattle.td_base.specs.declared.bit.Bit.{Bit}
use Rattle.td_base.specs.declared.bit.Bit.TheVariants.{Left, Right}
use Rattle.td_base.specs.declared.dot.TheConstants.{MAX_SEQ}
use Rattle.td_base.specs.declared.site.TheConstants.{MAX_SITE}
use Rattle.td_marks.specs.declared.mark_op.TheConstants.{NAMES}
use Rattle.td_script.specs.declared.kind.Kind.{Kind}
use Rattle.td_script.specs.declared.kind.Kind.TheVariants as Fault
use Rattle.td_script.specs.declared.number.TheConstants.{MAX_DIGITS}
use Rattle.td_script.specs.Characters.{space, quote, point}
use Rattle.td_script.specs.Texts.{unquoted, is_short}
use Rattle.unicode_segmentation.specs.Grapheme.{graphemes}

-- an argument and what is left behind it, or its fault
abbrev pub Reading : Type 0 → Type 0
Reading V = Result (V × List ℕ) Kind

-- where an argument has no fault, the next thing is judged
abbrev pub behind : {V W : Type 0} → Reading V → (V → List ℕ → Result W Kind) → Result W Kind
behind (Ok read) next = next read.0 read.1
behind (Err kind) next = Err kind

-- something left behind the last argument
abbrev pub last : {V : Type 0} → V → List ℕ → Result V Kind
last value [] = Ok value
last value (_ ∷ _) = Err Fault.End

-- a byte at the front of the word
abbrev pub onto_word : ℕ → List ℕ × List ℕ → List ℕ × List ℕ
onto_word byte cut = (byte ∷ cut.0, cut.1)

-- a word goes to the next space or to the end
abbrev pub cut_word : List ℕ → List ℕ × List ℕ
cut_word [] = ([], [])
cut_word (byte ∷ bytes) = if byte == space then ([], byte ∷ bytes) else onto_word byte (cut_word bytes)

-- what an argument begins with: exactly one space, and something behind it
abbrev pub argument : List ℕ → Result (List ℕ) Kind
argument [] = Err Fault.End
argument (_ ∷ []) = Err Fault.End
argument (first ∷ byte ∷ bytes) = if first == space then Ok (byte ∷ bytes) else Err Fault.End

abbrev pub word_of_argument : Result (List ℕ) Kind → Reading (List ℕ)
word_of_argument (Ok bytes) = Ok (cut_word bytes)
word_of_argument (Err kind) = Err kind

abbrev pub word_at : List ℕ → Reading (List ℕ)
word_at rest = word_of_argument (argument rest)

-- an argument of one word
abbrev pub with_rest : {V : Type 0} → List ℕ → Result V Kind → Reading V
with_rest rest (Ok value) = Ok (value, rest)
with_rest rest (Err kind) = Err kind

abbrev pub by_word : {V : Type 0} → (List ℕ → Result V Kind) → List ℕ → Reading V
by_word read rest = behind (word_at rest) (λ word rest. with_rest rest (read word))

-- a number: `0`, or a digit from 1 to 9 and others, up to `MAX_DIGITS`
abbrev pub is_number : List ℕ → Bool
is_number [] = false
is_number (digit ∷ digits) =
    if digit == 0x30 then nat_le (length digits) 0 else
    list_all is_ascii_digit (digit ∷ digits) && nat_lt (length digits) MAX_DIGITS

abbrev pub number_of : List ℕ → Result ℕ Kind
number_of word = if is_number word then Ok (digits_value 10 word) else Err Fault.Number

-- a number that passes a test, else the fault of the test
abbrev pub tested : {V : Type 0} → (V → Bool) → Kind → Result V Kind → Result V Kind
tested test kind (Ok value) = if test value then Ok value else Err kind
tested test kind (Err other) = Err other

-- a site among so many
abbrev pub site_of : ℕ → List ℕ → Result ℕ Kind
site_of sites word = tested (is_in_range 1 sites) Fault.Site (number_of word)

-- how many sites there are
abbrev pub sites_of : List ℕ → Result ℕ Kind
sites_of word = tested (is_in_range 1 MAX_SITE) Fault.Sites (number_of word)

-- the name of a mark
abbrev pub name_of : List ℕ → Result ℕ Kind
name_of word = tested (λ name. nat_lt name NAMES) Fault.Number (number_of word)

abbrev pub onto_part : ℕ → Option (List ℕ × List ℕ) → Option (List ℕ × List ℕ)
onto_part byte (Some cut) = Some (onto_word byte cut)
onto_part byte None = None

-- the two parts round the first point
abbrev pub cut_dot : List ℕ → Option (List ℕ × List ℕ)
cut_dot [] = None
cut_dot (byte ∷ bytes) = if byte == point then Some ([], bytes) else onto_part byte (cut_dot bytes)

abbrev pub dot_of_numbers : Result ℕ Kind → Result ℕ Kind → Result DotValue Kind
dot_of_numbers (Ok site) (Ok seq) =
    if is_in_range 1 MAX_SEQ seq then Ok (record { site = site; seq = seq }) else Err Fault.Dot
dot_of_numbers _ _ = Err Fault.Dot

abbrev pub dot_of_parts : ℕ → Option (List ℕ × List ℕ) → Result DotValue Kind
dot_of_parts sites (Some cut) = dot_of_numbers (site_of sites cut.0) (number_of cut.1)
dot_of_parts sites None = Err Fault.Dot

-- a dot of the sites: a site, a point and a number of an operation
abbrev pub dot_of : ℕ → List ℕ → Result DotValue Kind
dot_of sites word = dot_of_parts sites (cut_dot word)

abbrev pub bit_of : List ℕ → Result Bit Kind
bit_of word =
    if bytes_eq word (codes "left") then Ok Left else
    if bytes_eq word (codes "right") then Ok Right else
    Err Fault.Word

abbrev pub clusters_of : Option (List ℕ × List ℕ) → Reading (List (List ℕ))
clusters_of None = Err Fault.Quote
clusters_of (Some read) =
    if list_all is_short (graphemes true read.0) then Ok (graphemes true read.0, read.1) else Err Fault.Atom

-- what stands behind an opening quote
abbrev pub opened : Result (List ℕ) Kind → Reading (List (List ℕ))
opened (Err kind) = Err kind
opened (Ok []) = Err Fault.Quote
opened (Ok (byte ∷ bytes)) = if byte == quote then clusters_of (unquoted false bytes) else Err Fault.Quote

-- a text in quotes, in clusters
abbrev pub text_at : List ℕ → Reading (List (List ℕ))
text_at rest = opened (argument rest)

-- the one cluster that a text is
abbrev pub cluster_of : List (List ℕ) → Result (List ℕ) Kind
cluster_of [] = Err Fault.Atom
cluster_of (cluster ∷ []) = Ok cluster
cluster_of (_ ∷ _ ∷ _) = Err Fault.Atom

-- a text in quotes that is one cluster
abbrev pub cluster_at : List ℕ → Reading (List ℕ)
cluster_at rest = behind (text_at rest) (λ clusters rest. with_rest rest (cluster_of clusters))
