-- The bytes of an input, field by field. Dots, identities, slots, runs and packets are as in format 2 of a message.
use Rattle.std.specs.Prelude.{ℕ, ◌<◌, ◌^◌, List, [], ◌∷◌, ◌++◌, Option, Some, None}
use Rattle.td_base.specs.Value.{AtomIdValue}
use Rattle.td_op.specs.declared.request.Request.{Request}
use Rattle.td_op.specs.declared.request.Request.TheVariants.{Insert, InsertAfter, Paste, PasteAfter, Delete}
use Rattle.td_op.specs.declared.request.Request.TheVariants.{DeleteAtom, Propose, ProposeAt, Cancel}
use Rattle.td_op.specs.declared.input.Input.{Input}
use Rattle.td_op.specs.declared.input.Input.TheVariants.{Local, Take, Next}
use Rattle.td_op.specs.Input.{IsRequest}
use Rattle.td_op.specs.Message.{IsMessage}
use Rattle.td_wire.specs.declared.format.Format.TheVariants.{Two}
use Rattle.td_wire.specs.Spelling.{number_bytes, dot_bytes, identity_bytes, bit_byte, slot_bytes, run_bytes, spelling}

-- the atom that something is put after, or none
abbrev pub place_bytes : Option AtomIdValue → List ℕ
place_bytes None = 0 ∷ []
place_bytes (Some x) = 1 ∷ identity_bytes Two x

-- an atom is a run of one
abbrev pub atom_bytes : List ℕ → List ℕ
atom_bytes atom = run_bytes Two (atom ∷ [])

-- which request it is, and its fields
abbrev pub request_bytes : Request → List ℕ
request_bytes (Insert index atom) = 1 ∷ number_bytes index ++ atom_bytes atom
request_bytes (InsertAfter after atom) = 2 ∷ place_bytes after ++ atom_bytes atom
request_bytes (Delete index) = 3 ∷ number_bytes index
request_bytes (DeleteAtom x) = 4 ∷ identity_bytes Two x
request_bytes (Propose slot) = 5 ∷ slot_bytes Two slot
request_bytes (ProposeAt index bit) = 6 ∷ number_bytes index ++ bit_byte bit ∷ []
request_bytes (Cancel proposal) = 7 ∷ dot_bytes proposal
request_bytes (Paste index run) = 8 ∷ number_bytes index ++ run_bytes Two run
request_bytes (PasteAfter after run) = 9 ∷ place_bytes after ++ run_bytes Two run

abbrev pub input_bytes : Input → List ℕ
input_bytes (Local request) = 1 ∷ request_bytes request
input_bytes (Take message) = 2 ∷ spelling Two message
input_bytes Next = 3 ∷ []

-- an index is a number of four bytes
abbrev pub IsIndex : ℕ → Type 0
IsIndex index = index < 2 ^ 32

-- the index of a request, or 0
abbrev pub index_of : Request → ℕ
index_of (Insert index atom) = index
index_of (InsertAfter after atom) = 0
index_of (Delete index) = index
index_of (DeleteAtom x) = 0
index_of (Propose slot) = 0
index_of (ProposeAt index bit) = index
index_of (Cancel proposal) = 0
index_of (Paste index run) = index
index_of (PasteAfter after run) = 0

-- what has bytes of its own: every input that a value of its type is
abbrev pub CanWrite : Input → Type 0
CanWrite (Local request) = IsRequest request × IsIndex (index_of request)
CanWrite (Take message) = IsMessage message
CanWrite Next = Unit {0}
