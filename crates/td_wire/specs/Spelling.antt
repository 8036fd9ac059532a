-- The spellings of messages, field by field, in format 2 and in the older format 1.
use Rattle.std.specs.Prelude.{◌≡◌, ◌<◌, ◌≤◌, ℕ, Bool, true, false, List, [], ◌∷◌, ◌++◌, length, map, take, codes}
use Rattle.std.specs.Int.{w32, to_be_bytes}
use Rattle.std.specs.List.{concat, flat_map}
use Rattle.td_base.specs.Value.{DotValue, AtomIdValue}
use Rattle.td_base.specs.declared.bit.Bit.{Bit}
use Rattle.td_base.specs.declared.bit.Bit.TheVariants.{Left, Right}
use Rattle.td_path.specs.declared.slot.Slot.{Slot}
use Rattle.td_path.specs.declared.slot.Slot.TheVariants.{Root, At}
use Rattle.td_op.specs.declared.body.Body.{Body}
use Rattle.td_op.specs.declared.body.Body.TheVariants.{Insert, Delete, Propose, Commit, Abort}
use Rattle.td_op.specs.declared.message.Message.{Message}
use Rattle.td_op.specs.declared.message.Message.TheVariants.{Op, Vote}
use Rattle.td_op.specs.declared.vote.Vote.{Vote as VoteValue}
use Rattle.td_op.specs.Op.{OpValue}
use Rattle.td_wire.specs.declared.format.Format.{Format}
use Rattle.td_wire.specs.declared.format.Format.TheVariants.{One, Two}
use Rattle.td_wire.specs.Format.{CanSay}

-- the first two bytes
abbrev pub mark : Format → List ℕ
mark One = codes "T1"
mark Two = codes "T2"

-- four bytes, the highest first
abbrev pub number_bytes : ℕ → List ℕ
number_bytes n = to_be_bytes w32 n

-- the site, and its number there
abbrev pub dot_bytes : DotValue → List ℕ
dot_bytes d = d.site ∷ number_bytes d.seq

-- the dot and the offset, which format 1 leaves out
abbrev pub identity_bytes : Format → AtomIdValue → List ℕ
identity_bytes One x = dot_bytes x.dot
identity_bytes Two x = dot_bytes x.dot ++ x.offset ∷ []

abbrev pub bit_byte : Bit → ℕ
bit_byte Left = 0
bit_byte Right = 1

abbrev pub slot_bytes : Format → Slot → List ℕ
slot_bytes f Root = 0 ∷ []
slot_bytes f (At atom b) = 1 ∷ bit_byte b ∷ identity_bytes f atom

-- how many atoms, which format 1 leaves out, their lengths, and their bytes
abbrev pub run_bytes : Format → List (List ℕ) → List ℕ
run_bytes One atoms = map length atoms ++ concat atoms
run_bytes Two atoms = length atoms ∷ map length atoms ++ concat atoms

-- how many sites, and the number of each
abbrev pub deps_bytes : List ℕ → List ℕ
deps_bytes v = length v ∷ flat_map number_bytes v

abbrev pub kind : Body → ℕ
kind (Insert s atoms) = 1
kind (Delete target) = 2
kind (Propose s) = 3
kind (Commit proposal) = 4
kind (Abort proposal) = 5

abbrev pub body_bytes : Format → Body → List ℕ
body_bytes f (Insert s atoms) = slot_bytes f s ++ run_bytes f atoms
body_bytes f (Delete target) = identity_bytes f target
body_bytes f (Propose s) = slot_bytes f s
body_bytes f (Commit proposal) = dot_bytes proposal
body_bytes f (Abort proposal) = dot_bytes proposal

abbrev pub op_bytes : Format → OpValue → List ℕ
op_bytes f o = dot_bytes o.dot ++ deps_bytes o.deps ++ body_bytes f o.body

abbrev pub yes_byte : Bool → ℕ
yes_byte false = 0
yes_byte true = 1

abbrev pub vote_kind : ℕ
vote_kind = 6

abbrev pub vote_bytes : VoteValue → List ℕ
vote_bytes v = v.voter ∷ dot_bytes v.proposal ++ yes_byte v.yes ∷ []

-- the mark, the kind, and what follows it
abbrev pub spelling : Format → Message → List ℕ
spelling f (Op o) = mark f ++ kind o.body ∷ op_bytes f o
spelling f (Vote v) = mark f ++ vote_kind ∷ vote_bytes v

-- the bytes are the spelling of the message in this format
pub record Spells (f : Format) (m : Message) (bytes : List ℕ) : Type 0 where
  pub can : CanSay f m
  pub bytes_are : bytes ≡ spelling f m

-- the bytes are the spelling of some message in format 2
abbrev pub IsPacket : List ℕ → Type 0
IsPacket bytes = (m : Message) × Spells Two m bytes

-- the bytes spell the message, in either format
abbrev pub SpellsIn : Message → List ℕ → Type 0
SpellsIn m bytes = (f : Format) × Spells f m bytes

-- the bytes are the front of a spelling
abbrev pub BeginsSpelling : List ℕ → Type 0
BeginsSpelling bytes = (m : Message) × (more : List ℕ) × SpellsIn m (bytes ++ more)

-- the first `at` bytes are the longest front of the bytes that is the front of a spelling
pub record IsFaultAt (bytes : List ℕ) (at : ℕ) : Type 0 where
  pub within : at ≤ length bytes
  pub begins : BeginsSpelling (take at bytes)
  pub longest : (k : ℕ) → at < k → k ≤ length bytes → ¬ BeginsSpelling (take k bytes)
