-- How a request is read, field after field, as messages are.
use Rattle.std.specs.Prelude.{ℕ, ◌==◌, List, [], ◌∷◌, Option, Some, None, Ok, if◌then◌else◌}
use Rattle.std.specs.Int.{w32, from_be_bytes}
use Rattle.td_base.specs.declared.site.TheConstants.{MAX_SITE}
use Rattle.td_base.specs.declared.atom.TheConstants.{MAX_ATOM_LEN}
use Rattle.td_base.specs.declared.bit.Bit.{Bit}
use Rattle.td_base.specs.Value.{AtomIdValue}
use Rattle.td_op.specs.declared.request.Request.{Request}
use Rattle.td_op.specs.declared.request.Request.TheVariants.{Insert, InsertAfter, Paste, PasteAfter, Delete}
use Rattle.td_op.specs.declared.request.Request.TheVariants.{DeleteAtom, Propose, ProposeAt, Cancel}
use Rattle.td_wire.specs.declared.format.Format.TheVariants.{Two}
use Rattle.td_wire.specs.Reading.{Read, ◌>>=◌, byte_at, bit_of, dot_at, identity_at, slot_at, atom_at, run_at}
use Rattle.td_input.specs.declared.kind.TheConstants.{INSERT, INSERT_AFTER, DELETE, DELETE_ATOM, PROPOSE, PROPOSE_AT}
use Rattle.td_input.specs.declared.kind.TheConstants.{CANCEL, PASTE, PASTE_AFTER, START, BEHIND}

-- four bytes, the highest first
unfoldable pub index_at : List ℕ → Read ℕ
index_at bytes = do
  a ← byte_at 0 255 bytes
  b ← byte_at 0 255 a.1
  c ← byte_at 0 255 b.1
  d ← byte_at 0 255 c.1
  Ok (from_be_bytes w32 (a.0 ∷ b.0 ∷ c.0 ∷ d.0 ∷ []), d.1)

unfoldable pub side_at : List ℕ → Read Bit
side_at bytes = do
  b ← byte_at 0 1 bytes
  Ok (bit_of b.0, b.1)

unfoldable pub place_at : List ℕ → Read (Option AtomIdValue)
place_at bytes = do
  tag ← byte_at START BEHIND bytes
  if tag.0 == START then Ok (None, tag.1) else (identity_at Two MAX_SITE tag.1 >>= λ x. Ok (Some x.0, x.1))

unfoldable pub one_atom_at : List ℕ → Read (List ℕ)
one_atom_at bytes = do
  one ← byte_at 1 1 bytes
  len ← byte_at 1 MAX_ATOM_LEN one.1
  atom_at len.0 len.1

-- the fields of a request of this kind
unfoldable pub fields_at : ℕ → List ℕ → Read Request
fields_at kind bytes =
    if kind == INSERT then (index_at bytes >>= λ i. one_atom_at i.1 >>= λ a. Ok (Insert i.0 a.0, a.1)) else
    if kind == INSERT_AFTER then (place_at bytes >>= λ p. one_atom_at p.1 >>= λ a. Ok (InsertAfter p.0 a.0, a.1)) else
    if kind == DELETE then (index_at bytes >>= λ i. Ok (Delete i.0, i.1)) else
    if kind == DELETE_ATOM then (identity_at Two MAX_SITE bytes >>= λ x. Ok (DeleteAtom x.0, x.1)) else
    if kind == PROPOSE then (slot_at Two MAX_SITE bytes >>= λ s. Ok (Propose s.0, s.1)) else
    if kind == PROPOSE_AT then (index_at bytes >>= λ i. side_at i.1 >>= λ b. Ok (ProposeAt i.0 b.0, b.1)) else
    if kind == CANCEL then (dot_at MAX_SITE bytes >>= λ d. Ok (Cancel d.0, d.1)) else
    if kind == PASTE then (index_at bytes >>= λ i. run_at Two i.1 >>= λ r. Ok (Paste i.0 r.0, r.1)) else
    (place_at bytes >>= λ p. run_at Two p.1 >>= λ r. Ok (PasteAfter p.0 r.0, r.1))

unfoldable pub request_at : List ℕ → Read Request
request_at bytes = do
  kind ← byte_at INSERT PASTE_AFTER bytes
  fields_at kind.0 kind.1
