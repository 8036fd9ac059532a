-- How the private readers go through the bytes, one field after another. No clause of a public call speaks of it.
use Rattle.std.specs.Prelude.{◌≡◌, ℕ, zero, suc, ◌+◌, ◌-◌, ◌*◌, ◌/◌, ◌%◌, Bool, ◌&&◌, nat_le, nat_lt, ◌==◌}
use Rattle.std.specs.Prelude.{if◌then◌else◌, List, [], ◌∷◌, length, take, Result, Ok, Err}
use Rattle.std.specs.Int.{is_in_range}
use Rattle.td_base.specs.Value.{DotValue, AtomIdValue}
use Rattle.td_base.specs.declared.site.TheConstants.{MAX_SITE}
use Rattle.td_base.specs.declared.dot.TheConstants.{MAX_SEQ}
use Rattle.td_base.specs.declared.atom.TheConstants.{MAX_ATOM_LEN}
use Rattle.td_base.specs.declared.atom_id.TheConstants.{MAX_OFFSET}
use Rattle.td_base.specs.declared.run.TheConstants.{MAX_RUN_LEN}
use Rattle.td_base.specs.declared.bit.Bit.{Bit}
use Rattle.td_base.specs.declared.bit.Bit.TheVariants.{Left, Right}
use Rattle.td_path.specs.declared.slot.Slot.{Slot}
use Rattle.td_path.specs.declared.slot.Slot.TheVariants.{Root, At}
use Rattle.td_op.specs.declared.body.Body.{Body}
use Rattle.td_op.specs.declared.body.Body.TheVariants.{Insert, Delete, Propose, Commit, Abort}
use Rattle.td_op.specs.declared.message.Message.{Message}
use Rattle.td_op.specs.declared.message.Message.TheVariants.{Op, Vote}
use Rattle.td_op.specs.declared.vote.Vote.{Vote as VoteValue}
use Rattle.td_op.specs.Op.{OpValue}
use Rattle.td_wire.specs.declared.format.Format.{Format}
use Rattle.td_wire.specs.declared.format.Format.TheVariants.{One, Two}
use Rattle.td_wire.specs.declared.format.TheConstants.{MAX_OLD_SITE, LETTER, DIGIT_ONE, DIGIT_TWO}
use Rattle.td_wire.specs.declared.format.TheConstants.{INSERT, DELETE, PROPOSE, COMMIT, VOTE}
use Rattle.td_wire.specs.declared.format.TheConstants.{ROOT, AT, LEFT, RIGHT, NO, YES}
use Rattle.td_wire.specs.declared.reader.Fault.{Fault}

-- a value and the bytes behind it, or how many bytes stand from the fault on
abbrev pub Read : Type 0 → Type 0
Read A = Result (A × List ℕ) ℕ

infixl 10 ◌>>=◌
abbrev pub ◌>>=◌ : {A B : Type 0} → Result A ℕ → (A → Result B ℕ) → Result B ℕ
(Ok x) >>= f = f x
(Err left) >>= f = Err left

-- what a reader answered, with the bytes that it left, is what reading gives
abbrev pub Gives : {A : Type 0} → Result A Fault → List ℕ → Read A → Type 0
Gives (Ok x) rest read = read ≡ Ok (x, rest)
Gives (Err fault) rest read = read ≡ Err fault.left

-- the same of a reader that answers no value: the value that reading gives is known before
abbrev pub Passes : {A : Type 0} → Result (Unit {0}) Fault → List ℕ → Read A → A → Type 0
Passes (Ok _) rest read x = read ≡ Ok (x, rest)
Passes (Err fault) rest read x = read ≡ Err fault.left

-- a byte that passes a test
abbrev pub passing_at : (ℕ → Bool) → List ℕ → Read ℕ
passing_at p [] = Err 0
passing_at p (b ∷ bytes) = if p b then Ok (b, bytes) else Err (suc (length bytes))

abbrev pub byte_at : ℕ → ℕ → List ℕ → Read ℕ
byte_at least most bytes = passing_at (is_in_range least most) bytes

-- of the lowest byte of a number in a range, where the byte above it is known
abbrev pub low_least : ℕ → ℕ → ℕ
low_least least high = if high == least / 256 then least % 256 else 0

abbrev pub low_most : ℕ → ℕ → ℕ
low_most most high = if high == most / 256 then most % 256 else 255

unfoldable pub number_at : ℕ → ℕ → List ℕ → Read ℕ
number_at least most bytes = do
  a ← byte_at 0 0 bytes
  b ← byte_at 0 0 a.1
  high ← byte_at (least / 256) (most / 256) b.1
  low ← byte_at (low_least least high.0) (low_most most high.0) high.1
  Ok (high.0 * 256 + low.0, low.1)

unfoldable pub dot_at : ℕ → List ℕ → Read DotValue
dot_at max_site bytes = do
  site ← byte_at 1 max_site bytes
  seq ← number_at 1 MAX_SEQ site.1
  Ok (record { site = site.0; seq = seq.0 }, seq.1)

unfoldable pub identity_at : Format → ℕ → List ℕ → Read AtomIdValue
identity_at One max_site bytes = do
  d ← dot_at max_site bytes
  Ok (record { dot = d.0; offset = 0 }, d.1)
identity_at Two max_site bytes = do
  d ← dot_at max_site bytes
  offset ← byte_at 0 MAX_OFFSET d.1
  Ok (record { dot = d.0; offset = offset.0 }, offset.1)

abbrev pub bit_of : ℕ → Bit
bit_of n = if n == LEFT then Left else Right

abbrev pub placed_at : Format → ℕ → List ℕ → Read Slot
placed_at f max_site bytes = do
  b ← byte_at LEFT RIGHT bytes
  x ← identity_at f max_site b.1
  Ok (At x.0 (bit_of b.0), x.1)

unfoldable pub slot_at : Format → ℕ → List ℕ → Read Slot
slot_at f max_site bytes = do
  tag ← byte_at ROOT AT bytes
  if tag.0 == ROOT then Ok (Root, tag.1) else placed_at f max_site tag.1

-- how many bytes a character has that begins with this byte: 0 where none does
abbrev pub character_len : ℕ → ℕ
character_len b =
    if nat_lt b 0x80 then 1 else
    if nat_lt b 0xC2 then 0 else
    if nat_lt b 0xE0 then 2 else
    if nat_lt b 0xF0 then 3 else
    if nat_lt b 0xF5 then 4 else
    0

-- the least and the greatest byte that continues a character
abbrev pub continuation_least : ℕ
continuation_least = 0x80

abbrev pub continuation_most : ℕ
continuation_most = 0xBF

-- the same of the second byte, behind this first one
abbrev pub second_least : ℕ → ℕ
second_least b =
    if b == 0xE0 then 0xA0 else
    if b == 0xF0 then 0x90 else
    continuation_least

abbrev pub second_most : ℕ → ℕ
second_most b =
    if b == 0xED then 0x9F else
    if b == 0xF4 then 0x8F else
    continuation_most

-- the first byte of a character of at most so many bytes
abbrev pub lead_at : ℕ → List ℕ → Read ℕ
lead_at room bytes = passing_at (λ b. nat_lt 0 (character_len b) && nat_le (character_len b) room) bytes

-- so many more bytes of a character, the first of them in a range of its own; the value is their number
unfoldable pub continuations_at : ℕ → ℕ → ℕ → List ℕ → Read ℕ
continuations_at zero least most bytes = Ok (0, bytes)
continuations_at (suc n) least most bytes = do
  b ← byte_at least most bytes
  more ← continuations_at n continuation_least continuation_most b.1
  Ok (suc more.0, more.1)

-- the length of a character of at most so many bytes
unfoldable pub character_at : ℕ → List ℕ → Read ℕ
character_at room bytes = do
  b ← lead_at room bytes
  more ← continuations_at (character_len b.0 - 1) (second_least b.0) (second_most b.0) b.1
  Ok (suc more.0, more.1)

-- characters of so many bytes together; the first number bounds how many there are
unfoldable pub text_at : ℕ → ℕ → List ℕ → Read ℕ
text_at bound zero bytes = Ok (0, bytes)
text_at zero (suc room) bytes = Err 0
text_at (suc bound) (suc room) bytes = do
  len ← character_at (suc room) bytes
  more ← text_at bound (suc room - len.0) len.1
  Ok (len.0 + more.0, more.1)

unfoldable pub atom_at : ℕ → List ℕ → Read (List ℕ)
atom_at len bytes = do
  text ← text_at len len bytes
  Ok (take len bytes, text.1)

-- so many lengths, of which each leaves one byte at least for each behind it
unfoldable pub lengths_at : ℕ → ℕ → List ℕ → Read (List ℕ)
lengths_at zero room bytes = Ok ([], bytes)
lengths_at (suc behind) room bytes = do
  len ← byte_at 1 (room - behind) bytes
  more ← lengths_at behind (room - len.0) len.1
  Ok (len.0 ∷ more.0, more.1)

unfoldable pub atoms_at : List ℕ → List ℕ → Read (List (List ℕ))
atoms_at [] bytes = Ok ([], bytes)
atoms_at (len ∷ lens) bytes = do
  atom ← atom_at len bytes
  more ← atoms_at lens atom.1
  Ok (atom.0 ∷ more.0, more.1)

unfoldable pub run_at : Format → List ℕ → Read (List (List ℕ))
run_at One bytes = do
  len ← byte_at 1 MAX_ATOM_LEN bytes
  atom ← atom_at len.0 len.1
  Ok (atom.0 ∷ [], atom.1)
run_at Two bytes = do
  count ← byte_at 1 MAX_RUN_LEN bytes
  lens ← lengths_at count.0 MAX_RUN_LEN count.1
  atoms_at lens.0 lens.1

-- the range of a site's number in the dependencies of the operation with this dot
abbrev pub dep_least : DotValue → ℕ → ℕ
dep_least own site = if own.site == site then own.seq - 1 else 0

abbrev pub dep_most : DotValue → ℕ → ℕ
dep_most own site = if own.site == site then own.seq - 1 else MAX_SEQ

-- the numbers of so many sites, from this one on
unfoldable pub deps_at : DotValue → ℕ → ℕ → List ℕ → Read (List ℕ)
deps_at own site zero bytes = Ok ([], bytes)
deps_at own site (suc n) bytes = do
  known ← number_at (dep_least own site) (dep_most own site) bytes
  more ← deps_at own (suc site) n known.1
  Ok (known.0 ∷ more.0, more.1)

unfoldable pub insert_at : Format → ℕ → List ℕ → Read Body
insert_at f n bytes = do
  s ← slot_at f n bytes
  atoms ← run_at f s.1
  Ok (Insert s.0 atoms.0, atoms.1)

-- the body of an operation of this kind
unfoldable pub body_at : Format → ℕ → ℕ → List ℕ → Read Body
body_at f kind n bytes =
    if kind == INSERT then insert_at f n bytes else
    if kind == DELETE then (identity_at f n bytes >>= λ x. Ok (Delete x.0, x.1)) else
    if kind == PROPOSE then (slot_at f n bytes >>= λ x. Ok (Propose x.0, x.1)) else
    if kind == COMMIT then (dot_at n bytes >>= λ x. Ok (Commit x.0, x.1)) else
    (dot_at n bytes >>= λ x. Ok (Abort x.0, x.1))

abbrev pub max_site : Format → ℕ
max_site One = MAX_OLD_SITE
max_site Two = MAX_SITE

unfoldable pub op_at : Format → ℕ → List ℕ → Read OpValue
op_at f kind bytes = do
  own ← dot_at (max_site f) bytes
  n ← byte_at own.0.site (max_site f) own.1
  known ← deps_at own.0 1 n.0 n.1
  what ← body_at f kind n.0 known.1
  Ok (record { dot = own.0; deps = known.0; body = what.0 }, what.1)

unfoldable pub vote_at : Format → List ℕ → Read VoteValue
vote_at f bytes = do
  voter ← byte_at 1 (max_site f) bytes
  proposal ← dot_at (max_site f) voter.1
  said ← byte_at NO YES proposal.1
  Ok (record { proposal = proposal.0; voter = voter.0; yes = said.0 == YES }, said.1)

abbrev pub format_of : ℕ → Format
format_of digit = if digit == DIGIT_ONE then One else Two

abbrev pub operation_at : Format → ℕ → List ℕ → Read Message
operation_at f kind bytes = op_at f kind bytes >>= λ o. Ok (Op o.0, o.1)

abbrev pub message_of_kind : Format → ℕ → List ℕ → Read Message
message_of_kind f kind bytes =
    if kind == VOTE then (vote_at f bytes >>= λ v. Ok (Vote v.0, v.1)) else
    operation_at f kind bytes

unfoldable pub message_at : List ℕ → Read Message
message_at bytes = do
  letter ← byte_at LETTER LETTER bytes
  digit ← byte_at DIGIT_ONE DIGIT_TWO letter.1
  kind ← byte_at INSERT VOTE digit.1
  message_of_kind (format_of digit.0) kind.0 kind.1
