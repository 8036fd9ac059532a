-- What a line of a trace tells of an input, read from the front of bytes.
use Rattle.std.specs.Prelude.{ℕ, Bool, true, false, List, Option, Some, None, codes}
use Rattle.td_base.specs.Value.{AtomIdValue}
use Rattle.td_op.specs.declared.request.Request.{Request}
use Rattle.td_op.specs.declared.request.Request.TheVariants.{Insert, InsertAfter, Paste, PasteAfter, Delete}
use Rattle.td_op.specs.declared.request.Request.TheVariants.{DeleteAtom}
use Rattle.td_op.specs.declared.request.Request.TheVariants.{Propose, ProposeAt, Cancel}
use Rattle.td_path.specs.declared.slot.Slot.{Slot}
use Rattle.td_path.specs.declared.slot.Slot.TheVariants.{Root, At}
use Rattle.td_trace.specs.declared.told_input.ToldInput.{ToldInput}
use Rattle.td_trace.specs.declared.told_input.ToldInput.TheVariants.{Asked, TookOp, TookVote, Went}
use Rattle.td_reader.specs.Arguments.{short_at, site_at, dot_at, identity_at, spaced_atom_at, run_at, bit_at}
use Rattle.td_reader.specs.Reading.{Reading, ◌>>=◌, after, choose}

-- the slot beside an atom
unfoldable pub slot_beside : List ℕ → Reading Slot
slot_beside bytes = do
  id ← identity_at bytes
  bit ← bit_at id.1
  Some (At id.0 bit.0, bit.1)

-- a slot: `root`, or an identity and a side
unfoldable pub slot_at : List ℕ → Reading Slot
slot_at bytes = choose (codes "root") bytes (λ rest. Some (Root, rest)) (slot_beside bytes)

unfoldable pub after_atom : List ℕ → Reading (Option AtomIdValue)
after_atom bytes = do
  id ← identity_at bytes
  Some (Some id.0, id.1)

-- the atom behind which something is put, or `start`
unfoldable pub place_at : List ℕ → Reading (Option AtomIdValue)
place_at bytes = choose (codes "start") bytes (λ rest. Some (None, rest)) (after_atom bytes)

-- ---- requests, each behind its word and a space

unfoldable pub insert_at : List ℕ → Reading Request
insert_at bytes = do
  index ← short_at bytes
  atom ← spaced_atom_at index.1
  Some (Insert index.0 atom.0, atom.1)

unfoldable pub insert_after_at : List ℕ → Reading Request
insert_after_at bytes = do
  place ← place_at bytes
  atom ← spaced_atom_at place.1
  Some (InsertAfter place.0 atom.0, atom.1)

unfoldable pub paste_at : List ℕ → Reading Request
paste_at bytes = do
  index ← short_at bytes
  run ← run_at index.1
  Some (Paste index.0 run.0, run.1)

unfoldable pub paste_after_at : List ℕ → Reading Request
paste_after_at bytes = do
  place ← place_at bytes
  run ← run_at place.1
  Some (PasteAfter place.0 run.0, run.1)

unfoldable pub delete_at : List ℕ → Reading Request
delete_at bytes = do
  index ← short_at bytes
  Some (Delete index.0, index.1)

unfoldable pub delete_atom_at : List ℕ → Reading Request
delete_atom_at bytes = do
  id ← identity_at bytes
  Some (DeleteAtom id.0, id.1)

unfoldable pub propose_at : List ℕ → Reading Request
propose_at bytes = do
  slot ← slot_at bytes
  Some (Propose slot.0, slot.1)

unfoldable pub propose_beside : List ℕ → Reading Request
propose_beside bytes = do
  index ← short_at bytes
  bit ← bit_at index.1
  Some (ProposeAt index.0 bit.0, bit.1)

unfoldable pub cancel_at : List ℕ → Reading Request
cancel_at bytes = do
  proposal ← dot_at bytes
  Some (Cancel proposal.0, proposal.1)

unfoldable pub request_at : List ℕ → Reading Request
request_at bytes =
    choose (codes " insert ") bytes insert_at
    (choose (codes " insertafter ") bytes insert_after_at
    (choose (codes " paste ") bytes paste_at
    (choose (codes " pasteafter ") bytes paste_after_at
    (choose (codes " delete ") bytes delete_at
    (choose (codes " deleteatom ") bytes delete_atom_at
    (choose (codes " propose ") bytes propose_at
    (choose (codes " proposeat ") bytes propose_beside
    (choose (codes " cancel ") bytes cancel_at None))))))))

-- ---- inputs

unfoldable pub took_op_at : List ℕ → Reading ToldInput
took_op_at bytes = do
  dot ← dot_at bytes
  Some (TookOp dot.0, dot.1)

-- yes or no, behind a space
unfoldable pub ballot_at : List ℕ → Reading Bool
ballot_at bytes =
    choose (codes " yes") bytes (λ rest. Some (true, rest))
    (choose (codes " no") bytes (λ rest. Some (false, rest)) None)

unfoldable pub took_vote_at : List ℕ → Reading ToldInput
took_vote_at bytes = do
  voter ← site_at bytes
  rest ← after (codes " ") voter.1
  proposal ← dot_at rest
  ballot ← ballot_at proposal.1
  Some (TookVote (record { proposal = proposal.0; voter = voter.0; yes = ballot.0 }), ballot.1)

unfoldable pub asked_at : List ℕ → Reading ToldInput
asked_at bytes = do
  request ← request_at bytes
  Some (Asked request.0, request.1)

unfoldable pub told_at : List ℕ → Reading ToldInput
told_at bytes =
    choose (codes " take op ") bytes took_op_at
    (choose (codes " take vote ") bytes took_vote_at
    (choose (codes " next") bytes (λ rest. Some (Went, rest)) (asked_at bytes)))
