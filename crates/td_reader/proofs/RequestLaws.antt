-- Inputs: what is written is read, and what is read is what is written of its value.
use Rattle.std.proofs.Common.{◌≡◌, ◌<◌, ◌^◌, ℕ, Bool, true, false, List, [], ◌∷◌, ◌++◌, codes, Option, Some, None}
use Rattle.std.proofs.Common.{refl, ap, ◌∙◌, append_assoc, arith}
use Rattle.std.specs.Fmt.{decimal}
use Rattle.std.proofs.lemmas.Option.{none-some, some_pair_parts}
use Rattle.td_base.specs.Atom.{IsAtom}
use Rattle.td_base.specs.Run.{IsRun}
use Rattle.td_base.specs.Value.{DotValue, AtomIdValue, IsDot, IsAtomId}
use Rattle.td_base.specs.declared.bit.Bit.{Bit}
use Rattle.td_base.specs.declared.bit.Bit.TheVariants.{Left, Right}
use Rattle.td_op.specs.Input.{IsPlace}
use Rattle.td_op.specs.Message.{IsVote}
use Rattle.td_op.specs.declared.request.Request.{Request}
use Rattle.td_op.specs.declared.request.Request.TheVariants.{Insert, InsertAfter, Paste, PasteAfter, Delete}
use Rattle.td_op.specs.declared.request.Request.TheVariants.{DeleteAtom}
use Rattle.td_op.specs.declared.request.Request.TheVariants.{Propose, ProposeAt, Cancel}
use Rattle.td_op.specs.declared.vote.Vote.{Vote}
use Rattle.td_path.specs.Slot.{IsSlot}
use Rattle.td_path.specs.declared.slot.Slot.{Slot}
use Rattle.td_path.specs.declared.slot.Slot.TheVariants.{Root, At}
use Rattle.td_trace.specs.declared.told_input.ToldInput.{ToldInput}
use Rattle.td_trace.specs.declared.told_input.ToldInput.TheVariants.{Asked, TookOp, TookVote, Went}
use Rattle.td_report.specs.Parts.{identity, spaced_quoted}
use Rattle.td_report.specs.Replies.{yes_or_no}
use Rattle.td_report.specs.TraceLines.{request_part, told_part}
use Rattle.td_script.specs.Spelling.{dotted, spaced_bit}
use Rattle.td_reader.specs.Arguments.{short_at, site_at, dot_at, identity_at, spaced_atom_at, run_at, bit_at}
use Rattle.td_reader.specs.Reading.{after}
use Rattle.td_reader.specs.Requests.{slot_beside, slot_at, after_atom, place_at, insert_at, insert_after_at, paste_at}
use Rattle.td_reader.specs.Requests.{paste_after_at}
use Rattle.td_reader.specs.Requests.{delete_at, delete_atom_at, propose_at, propose_beside, cancel_at, request_at}
use Rattle.td_reader.specs.Requests.{took_op_at, ballot_at, took_vote_at, asked_at, told_at}
use Rattle.td_reader.specs.Values.{FitsRequest, FitsTold, IsIndexed}
use Rattle.td_reader.proofs.AtomLaws.{atoms_written, spaced_atom_there, spaced_atom_back, run_there, run_back}
use Rattle.td_reader.proofs.AtomLaws.{bit_there, bit_back}
use Rattle.td_reader.proofs.Cursors.{NoDigit, after_back}
use Rattle.td_reader.proofs.NameLaws.{site_there, site_back, dot_there, dot_back, identity_there, identity_back}
use Rattle.td_reader.proofs.NameLaws.{no_word_identity}
use Rattle.td_reader.proofs.Numbers.{short_there, short_back}
use Rattle.td_reader.proofs.Readings.{IsRead, Ends, bind_back, choose_back, no_digit, read_as, two}

-- what stands behind an input
abbrev pub arrow : List ℕ → List ℕ
arrow more = codes " ->" ++ more

-- ---- places and slots, without the space in front

abbrev pub place_written : Option AtomIdValue → List ℕ
place_written None = codes "start"
place_written (Some id) = identity id

abbrev pub slot_written : Slot → List ℕ
slot_written Root = codes "root"
slot_written (At id bit) = identity id ++ spaced_bit bit

pub place_there : (place : Option AtomIdValue) (rest : List ℕ) → IsPlace place → Ends rest
    → place_at (place_written place ++ rest) ≡ Some (place, rest)
unfolding place_at after_atom
place_there None rest h ends = refl
place_there (Some id) rest h ends =
    let none : after (codes "start") (identity id ++ rest) ≡ None = no_word_identity 115
    (codes "tart") id rest refl h in
    let is : identity_at (identity id ++ rest) ≡ Some (id, rest) = identity_there id rest h ends in
    rw (none, is) refl

pub place_back : (bytes : List ℕ) (place : Option AtomIdValue) (rest : List ℕ) → place_at bytes ≡ Some (place, rest)
    → IsRead place_written IsPlace bytes place rest
unfolding place_at after_atom
place_back bytes place rest e =
    choose_back (codes "start") e
    (λ behind whole e. read_as e (record { fits = tt; whole = whole }))
    (λ e. bind_back e (λ (id : AtomIdValue × List ℕ) is e.
    let back = identity_back bytes id.0 id.1 is in
    read_as e (record { fits = back.fits; whole = back.whole })))

ends_of_bit : (bit : Bit) (rest : List ℕ) → Ends (spaced_bit bit ++ rest)
ends_of_bit Left rest = (refl, refl)
ends_of_bit Right rest = (refl, refl)

pub slot_there : (slot : Slot) (rest : List ℕ) → IsSlot slot → slot_at (slot_written slot ++ rest) ≡ Some (slot, rest)
unfolding slot_at slot_beside
slot_there Root rest h = refl
slot_there (At id bit) rest h =
    let behind : List ℕ = spaced_bit bit ++ rest in
    let none : after (codes "root") (identity id ++ behind) ≡ None = no_word_identity 114
    (codes "oot") id behind refl h in
    let is : identity_at (identity id ++ behind) ≡ Some (id, behind) = identity_there id behind h
    (ends_of_bit bit rest) in
    let side : bit_at behind ≡ Some (bit, rest) = bit_there bit rest in
    ap slot_at (append_assoc (identity id) (spaced_bit bit) rest) ∙ rw (none, is, side) refl

pub slot_back : (bytes : List ℕ) (slot : Slot) (rest : List ℕ) → slot_at bytes ≡ Some (slot, rest)
    → IsRead slot_written IsSlot bytes slot rest
unfolding slot_at slot_beside
slot_back bytes slot rest e =
    choose_back (codes "root") e
    (λ behind whole e. read_as e (record { fits = tt; whole = whole }))
    (λ e. bind_back e (λ (id : AtomIdValue × List ℕ) is_id e. bind_back e (λ (bit : Bit × List ℕ) is_bit e.
    let first = identity_back bytes id.0 id.1 is_id in
    let second = bit_back id.1 bit.0 bit.1 is_bit in
    read_as e (record {
      fits = first.fits;
      whole = two (identity id.0)
          (spaced_bit bit.0) id.1 bit.1 first.whole second;
    }))))

-- ---- requests are read

insert_there : (index : ℕ) (atom more : List ℕ) → index < 2 ^ 32 → IsAtom atom
    → insert_at ((decimal index ++ spaced_quoted atom) ++ arrow more) ≡ Some (Insert index atom, arrow more)
unfolding insert_at
insert_there index atom more small h =
    let first : short_at (decimal index ++ (spaced_quoted atom ++ arrow more)) ≡ Some
    (index, spaced_quoted atom ++ arrow more) =
    short_there index (spaced_quoted atom ++ arrow more) small refl in
    let second : spaced_atom_at (spaced_quoted atom ++ arrow more) ≡ Some (atom, arrow more) = spaced_atom_there atom
    (arrow more) h in
    ap insert_at (append_assoc (decimal index) (spaced_quoted atom) (arrow more)) ∙ rw (first, second) refl

insert_after_there : (place : Option AtomIdValue) (atom more : List ℕ) → IsPlace place → IsAtom atom
    → insert_after_at ((place_written place ++ spaced_quoted atom) ++ arrow more) ≡ Some
    (InsertAfter place atom, arrow more)
unfolding insert_after_at
insert_after_there place atom more fits h =
    let first : place_at (place_written place ++ (spaced_quoted atom ++ arrow more)) ≡ Some
    (place, spaced_quoted atom ++ arrow more) =
    place_there place (spaced_quoted atom ++ arrow more) fits (refl, refl) in
    let second : spaced_atom_at (spaced_quoted atom ++ arrow more) ≡ Some (atom, arrow more) = spaced_atom_there atom
    (arrow more) h in
    ap insert_after_at (append_assoc (place_written place) (spaced_quoted atom) (arrow more)) ∙ rw
    (first, second) refl

-- a run begins with a space
ends_of_run : (run : List (List ℕ)) (more : List ℕ) → IsRun run → Ends (atoms_written run ++ arrow more)
ends_of_run [] more h = absurd (omega (arith, h.some))
ends_of_run (atom ∷ run) more h = (refl, refl)

paste_there : (index : ℕ) (run : List (List ℕ)) (more : List ℕ) → index < 2 ^ 32 → IsRun run
    → paste_at ((decimal index ++ atoms_written run) ++ arrow more) ≡ Some (Paste index run, arrow more)
unfolding paste_at
paste_there index run more small h =
    let first : short_at (decimal index ++ (atoms_written run ++ arrow more)) ≡ Some
    (index, atoms_written run ++ arrow more) =
    short_there index (atoms_written run ++ arrow more) small
    (no_digit (atoms_written run ++ arrow more) (ends_of_run run more h)) in
    let second : run_at (atoms_written run ++ arrow more) ≡ Some (run, arrow more) = run_there run
    (arrow more) h refl in
    ap paste_at (append_assoc (decimal index) (atoms_written run) (arrow more)) ∙ rw (first, second) refl

paste_after_there : (place : Option AtomIdValue) (run : List (List ℕ)) (more : List ℕ) → IsPlace place → IsRun run
    → paste_after_at ((place_written place ++ atoms_written run) ++ arrow more) ≡ Some
    (PasteAfter place run, arrow more)
unfolding paste_after_at
paste_after_there place run more fits h =
    let first : place_at (place_written place ++ (atoms_written run ++ arrow more)) ≡ Some
    (place, atoms_written run ++ arrow more) =
    place_there place (atoms_written run ++ arrow more) fits (ends_of_run run more h) in
    let second : run_at (atoms_written run ++ arrow more) ≡ Some (run, arrow more) = run_there run
    (arrow more) h refl in
    ap paste_after_at (append_assoc (place_written place) (atoms_written run) (arrow more)) ∙ rw (first, second) refl

delete_there : (index : ℕ) (more : List ℕ) → index < 2 ^ 32 → delete_at (decimal index ++ arrow more) ≡ Some
    (Delete index, arrow more)
unfolding delete_at
delete_there index more small =
    let first : short_at (decimal index ++ arrow more) ≡ Some (index, arrow more) = short_there index
    (arrow more) small refl in
    rw first refl

delete_atom_there : (id : AtomIdValue) (more : List ℕ) → IsAtomId id → delete_atom_at
    (identity id ++ arrow more) ≡ Some (DeleteAtom id, arrow more)
unfolding delete_atom_at
delete_atom_there id more h =
    let first : identity_at (identity id ++ arrow more) ≡ Some (id, arrow more) = identity_there id (arrow more) h
    (refl, refl) in
    rw first refl

propose_there : (slot : Slot) (more : List ℕ) → IsSlot slot → propose_at (slot_written slot ++ arrow more) ≡ Some
    (Propose slot, arrow more)
unfolding propose_at
propose_there slot more h =
    let first : slot_at (slot_written slot ++ arrow more) ≡ Some (slot, arrow more) = slot_there slot
    (arrow more) h in
    rw first refl

propose_beside_there : (index : ℕ) (bit : Bit) (more : List ℕ) → index < 2 ^ 32
    → propose_beside ((decimal index ++ spaced_bit bit) ++ arrow more) ≡ Some (ProposeAt index bit, arrow more)
unfolding propose_beside
propose_beside_there index bit more small =
    let first : short_at (decimal index ++ (spaced_bit bit ++ arrow more)) ≡ Some
    (index, spaced_bit bit ++ arrow more) =
    short_there index (spaced_bit bit ++ arrow more) small (no_digit (spaced_bit bit ++ arrow more)
    (ends_of_bit bit (arrow more))) in
    let second : bit_at (spaced_bit bit ++ arrow more) ≡ Some (bit, arrow more) = bit_there bit (arrow more) in
    ap propose_beside (append_assoc (decimal index) (spaced_bit bit) (arrow more)) ∙ rw (first, second) refl

cancel_there : (proposal : DotValue) (more : List ℕ) → IsDot proposal → cancel_at
    (dotted proposal ++ arrow more) ≡ Some (Cancel proposal, arrow more)
unfolding cancel_at
cancel_there proposal more h =
    let first : dot_at (dotted proposal ++ arrow more) ≡ Some (proposal, arrow more) = dot_there proposal
    (arrow more) h refl in
    rw first refl

pub request_there : (request : Request) (more : List ℕ) → FitsRequest request
    → request_at (request_part request ++ arrow more) ≡ Some (request, arrow more)
unfolding request_at
request_there (Insert index atom) more h = insert_there index atom more h.1 h.0
request_there (InsertAfter None atom) more h = insert_after_there None atom more h.0.0 h.0.1
request_there (InsertAfter (Some id) atom) more h = insert_after_there (Some id) atom more h.0.0 h.0.1
request_there (Paste index run) more h = paste_there index run more h.1 h.0
request_there (PasteAfter None run) more h = paste_after_there None run more h.0.0 h.0.1
request_there (PasteAfter (Some id) run) more h = paste_after_there (Some id) run more h.0.0 h.0.1
request_there (Delete index) more h = delete_there index more h.1
request_there (DeleteAtom id) more h = delete_atom_there id more h.0
request_there (Propose Root) more h = propose_there Root more h.0
request_there (Propose (At id bit)) more h = propose_there (At id bit) more h.0
request_there (ProposeAt index bit) more h = propose_beside_there index bit more h.1
request_there (Cancel proposal) more h = cancel_there proposal more h.0

-- ---- what is read as a request is one

abbrev IsAsked : List ℕ → Request → List ℕ → Type 0
IsAsked bytes request rest = IsRead request_part FitsRequest bytes request rest

insert_back : (bytes behind : List ℕ) (request : Request) (rest : List ℕ) → bytes ≡ codes " insert " ++ behind
    → insert_at behind ≡ Some (request, rest) → IsAsked bytes request rest
unfolding insert_at
insert_back bytes behind request rest whole e =
    bind_back e (λ (index : ℕ × List ℕ) is_index e. bind_back e (λ (atom : List ℕ × List ℕ) is_atom e.
    let first = short_back behind index.0 index.1 is_index in
    let second = spaced_atom_back index.1 atom.0 atom.1 is_atom in
    read_as e (record {
      fits = (second.fits, first.0);
      whole = whole ∙ ap (λ (t : List ℕ). codes " insert " ++ t)
          (two (decimal index.0) (spaced_quoted atom.0) index.1 atom.1 first.1 second.whole);
    })))

insert_after_back : (bytes behind : List ℕ) (request : Request) (rest : List ℕ)
    → bytes ≡ codes " insertafter " ++ behind
    → insert_after_at behind ≡ Some (request, rest) → IsAsked bytes request rest
unfolding insert_after_at
insert_after_back bytes behind request rest whole e =
    bind_back e (λ (place : Option AtomIdValue × List ℕ) is_place e. bind_back e
    (λ (atom : List ℕ × List ℕ) is_atom e.
    let first = place_back behind place.0 place.1 is_place in
    let second = spaced_atom_back place.1 atom.0 atom.1 is_atom in
    read_as e (record {
      fits = ((first.fits, second.fits), tt_at place.0 atom.0);
      whole = whole ∙ ap (λ (t : List ℕ). codes " insertafter " ++ t)
          (two (place_written place.0) (spaced_quoted atom.0) place.1 atom.1 first.whole second.whole)
          ∙ as_written place.0 atom.0 atom.1;
    })))
  where
    tt_at : (place : Option AtomIdValue) (atom : List ℕ) → IsIndexed (InsertAfter place atom)
    tt_at place atom = tt

    as_written : (place : Option AtomIdValue) (atom rest : List ℕ)
        → codes " insertafter " ++ ((place_written place ++ spaced_quoted atom) ++ rest) ≡ request_part
        (InsertAfter place atom) ++ rest
    as_written None atom rest = refl
    as_written (Some id) atom rest = refl

paste_back : (bytes behind : List ℕ) (request : Request) (rest : List ℕ) → bytes ≡ codes " paste " ++ behind
    → paste_at behind ≡ Some (request, rest) → IsAsked bytes request rest
unfolding paste_at
paste_back bytes behind request rest whole e =
    bind_back e (λ (index : ℕ × List ℕ) is_index e. bind_back e (λ (run : List (List ℕ) × List ℕ) is_run e.
    let first = short_back behind index.0 index.1 is_index in
    let second = run_back index.1 run.0 run.1 is_run in
    read_as e (record {
      fits = (second.fits, first.0);
      whole = whole ∙ ap (λ (t : List ℕ). codes " paste " ++ t)
          (two (decimal index.0) (atoms_written run.0) index.1 run.1 first.1 second.whole);
    })))

paste_after_back : (bytes behind : List ℕ) (request : Request) (rest : List ℕ)
    → bytes ≡ codes " pasteafter " ++ behind
    → paste_after_at behind ≡ Some (request, rest) → IsAsked bytes request rest
unfolding paste_after_at
paste_after_back bytes behind request rest whole e =
    bind_back e (λ (place : Option AtomIdValue × List ℕ) is_place e. bind_back e
    (λ (run : List (List ℕ) × List ℕ) is_run e.
    let first = place_back behind place.0 place.1 is_place in
    let second = run_back place.1 run.0 run.1 is_run in
    read_as e (record {
      fits = ((first.fits, second.fits), tt);
      whole = whole ∙ ap (λ (t : List ℕ). codes " pasteafter " ++ t)
          (two (place_written place.0) (atoms_written run.0) place.1 run.1 first.whole second.whole)
          ∙ as_written place.0 run.0 run.1;
    })))
  where
    as_written : (place : Option AtomIdValue) (run : List (List ℕ)) (rest : List ℕ)
        → codes " pasteafter " ++ ((place_written place ++ atoms_written run) ++ rest) ≡ request_part
        (PasteAfter place run) ++ rest
    as_written None run rest = refl
    as_written (Some id) run rest = refl

delete_back : (bytes behind : List ℕ) (request : Request) (rest : List ℕ) → bytes ≡ codes " delete " ++ behind
    → delete_at behind ≡ Some (request, rest) → IsAsked bytes request rest
unfolding delete_at
delete_back bytes behind request rest whole e =
    bind_back e (λ (index : ℕ × List ℕ) is_index e.
    let first = short_back behind index.0 index.1 is_index in
    read_as e (record { fits = (tt, first.0); whole = whole ∙ ap (λ (t : List ℕ). codes " delete " ++ t) first.1 }))

delete_atom_back : (bytes behind : List ℕ) (request : Request) (rest : List ℕ)
    → bytes ≡ codes " deleteatom " ++ behind
    → delete_atom_at behind ≡ Some (request, rest) → IsAsked bytes request rest
unfolding delete_atom_at
delete_atom_back bytes behind request rest whole e =
    bind_back e (λ (id : AtomIdValue × List ℕ) is_id e.
    let first = identity_back behind id.0 id.1 is_id in
    read_as e (record {
      fits = (first.fits, tt);
      whole = whole ∙ ap
          (λ (t : List ℕ). codes " deleteatom " ++ t) first.whole;
    }))

propose_back : (bytes behind : List ℕ) (request : Request) (rest : List ℕ) → bytes ≡ codes " propose " ++ behind
    → propose_at behind ≡ Some (request, rest) → IsAsked bytes request rest
unfolding propose_at
propose_back bytes behind request rest whole e =
    bind_back e (λ (slot : Slot × List ℕ) is_slot e.
    let first = slot_back behind slot.0 slot.1 is_slot in
    read_as e (record {
      fits = (first.fits, tt);
      whole = whole ∙ ap
          (λ (t : List ℕ). codes " propose " ++ t) first.whole ∙ as_written slot.0 slot.1;
    }))
  where
    as_written : (slot : Slot) (rest : List ℕ) → codes " propose " ++ (slot_written slot ++ rest) ≡ request_part
        (Propose slot) ++ rest
    as_written Root rest = refl
    as_written (At id bit) rest = refl

propose_beside_back : (bytes behind : List ℕ) (request : Request) (rest : List ℕ)
    → bytes ≡ codes " proposeat " ++ behind
    → propose_beside behind ≡ Some (request, rest) → IsAsked bytes request rest
unfolding propose_beside
propose_beside_back bytes behind request rest whole e =
    bind_back e (λ (index : ℕ × List ℕ) is_index e. bind_back e (λ (bit : Bit × List ℕ) is_bit e.
    let first = short_back behind index.0 index.1 is_index in
    let second = bit_back index.1 bit.0 bit.1 is_bit in
    read_as e (record {
      fits = (tt, first.0);
      whole = whole ∙ ap (λ (t : List ℕ). codes " proposeat " ++ t)
          (two (decimal index.0) (spaced_bit bit.0) index.1 bit.1 first.1 second);
    })))

cancel_back : (bytes behind : List ℕ) (request : Request) (rest : List ℕ) → bytes ≡ codes " cancel " ++ behind
    → cancel_at behind ≡ Some (request, rest) → IsAsked bytes request rest
unfolding cancel_at
cancel_back bytes behind request rest whole e =
    bind_back e (λ (proposal : DotValue × List ℕ) is_dot e.
    let first = dot_back behind proposal.0 proposal.1 is_dot in
    read_as e (record {
      fits = (first.fits, tt);
      whole = whole ∙ ap
          (λ (t : List ℕ). codes " cancel " ++ t) first.whole;
    }))

pub request_back : (bytes : List ℕ) (request : Request) (rest : List ℕ) → request_at bytes ≡ Some (request, rest)
    → IsRead request_part FitsRequest bytes request rest
unfolding request_at
request_back bytes request rest e =
    choose_back (codes " insert ") e (λ behind whole e. insert_back bytes behind request rest whole e)
    (λ e. choose_back (codes " insertafter ") e (λ behind whole e. insert_after_back bytes behind request rest whole
    e)
    (λ e. choose_back (codes " paste ") e (λ behind whole e. paste_back bytes behind request rest whole e)
    (λ e. choose_back (codes " pasteafter ") e (λ behind whole e. paste_after_back bytes behind request rest whole e)
    (λ e. choose_back (codes " delete ") e (λ behind whole e. delete_back bytes behind request rest whole e)
    (λ e. choose_back (codes " deleteatom ") e (λ behind whole e. delete_atom_back bytes behind request rest whole e)
    (λ e. choose_back (codes " propose ") e (λ behind whole e. propose_back bytes behind request rest whole e)
    (λ e. choose_back (codes " proposeat ") e (λ behind whole e. propose_beside_back bytes behind request rest whole
    e)
    (λ e. choose_back (codes " cancel ") e (λ behind whole e. cancel_back bytes behind request rest whole e)
    (λ e. absurd (none-some (request, rest) e))))))))))

-- ---- inputs

ballot_there : (yes : Bool) (rest : List ℕ) → ballot_at (yes_or_no yes ++ rest) ≡ Some (yes, rest)
unfolding ballot_at
ballot_there true rest = refl
ballot_there false rest = refl

ballot_back : (bytes : List ℕ) (ballot : Bool) (rest : List ℕ) → ballot_at bytes ≡ Some (ballot, rest)
    → bytes ≡ yes_or_no ballot ++ rest
unfolding ballot_at
ballot_back bytes ballot rest e =
    choose_back (codes " yes") e (λ behind whole e.
    let same = some_pair_parts true ballot behind rest e in whole ∙ (λ i. yes_or_no (same.0 i) ++ same.1 i))
    (λ e. choose_back (codes " no") e (λ behind whole e.
    let same = some_pair_parts false ballot behind rest e in whole ∙ (λ i. yes_or_no (same.0 i) ++ same.1 i))
    (λ e. absurd (none-some (ballot, rest) e)))

no_digit_of_ballot : (ballot : Bool) (rest : List ℕ) → NoDigit (yes_or_no ballot ++ rest)
no_digit_of_ballot true rest = refl
no_digit_of_ballot false rest = refl

took_op_there : (dot : DotValue) (more : List ℕ) → IsDot dot → took_op_at (dotted dot ++ arrow more) ≡ Some
    (TookOp dot, arrow more)
unfolding took_op_at
took_op_there dot more h =
    let first : dot_at (dotted dot ++ arrow more) ≡ Some (dot, arrow more) = dot_there dot (arrow more) h refl in
    rw first refl

took_vote_there : (vote : Vote) (more : List ℕ) → IsVote vote
    → took_vote_at ((decimal vote.voter ++ (32 ∷ (dotted vote.proposal ++ yes_or_no vote.yes))) ++ arrow more) ≡ Some
    (TookVote vote, arrow more)
unfolding took_vote_at
took_vote_there vote more h =
    let last : List ℕ = yes_or_no vote.yes ++ arrow more in
    let first : site_at (decimal vote.voter ++ (32 ∷ (dotted vote.proposal ++ last))) ≡ Some
    (vote.voter, 32 ∷ (dotted vote.proposal ++ last)) =
    site_there vote.voter (32 ∷ (dotted vote.proposal ++ last)) h.voter refl in
    let second : dot_at (dotted vote.proposal ++ last) ≡ Some (vote.proposal, last) =
    dot_there vote.proposal last h.proposal (no_digit_of_ballot vote.yes (arrow more)) in
    let third : ballot_at last ≡ Some (vote.yes, arrow more) = ballot_there vote.yes (arrow more) in
    ap took_vote_at (append_assoc (decimal vote.voter) (32 ∷ (dotted vote.proposal ++ yes_or_no vote.yes))
    (arrow more)
    ∙ ap (λ (t : List ℕ). decimal vote.voter ++ (32 ∷ t)) (append_assoc (dotted vote.proposal) (yes_or_no vote.yes)
    (arrow more)))
    ∙ rw (first, second, third) refl

asked_there : (request : Request) (more : List ℕ) → FitsRequest request → asked_at
    (request_part request ++ arrow more) ≡ Some (Asked request, arrow more)
unfolding asked_at
asked_there request more h =
    let first : request_at (request_part request ++ arrow more) ≡ Some
    (request, arrow more) = request_there request more h in
    rw first refl

-- no request begins as what was taken
told_asked : (request : Request) (more : List ℕ) → told_at (request_part request ++ arrow more) ≡ asked_at
    (request_part request ++ arrow more)
unfolding told_at
told_asked (Insert index atom) more = refl
told_asked (InsertAfter None atom) more = refl
told_asked (InsertAfter (Some id) atom) more = refl
told_asked (Paste index run) more = refl
told_asked (PasteAfter None run) more = refl
told_asked (PasteAfter (Some id) run) more = refl
told_asked (Delete index) more = refl
told_asked (DeleteAtom id) more = refl
told_asked (Propose Root) more = refl
told_asked (Propose (At id bit)) more = refl
told_asked (ProposeAt index bit) more = refl
told_asked (Cancel proposal) more = refl

pub told_there : (told : ToldInput) (more : List ℕ) → FitsTold told → told_at (told_part told ++ arrow more) ≡ Some
    (told, arrow more)
unfolding told_at
told_there (Asked request) more h = told_asked request more ∙ asked_there request more h
told_there (TookOp dot) more h = took_op_there dot more h
told_there (TookVote vote) more h = took_vote_there vote more h
told_there Went more h = refl

took_op_back : (bytes behind : List ℕ) (told : ToldInput) (rest : List ℕ) → bytes ≡ codes " take op " ++ behind
    → took_op_at behind ≡ Some (told, rest) → IsRead told_part FitsTold bytes told rest
unfolding took_op_at
took_op_back bytes behind told rest whole e =
    bind_back e (λ (dot : DotValue × List ℕ) is_dot e.
    let first = dot_back behind dot.0 dot.1 is_dot in
    read_as e (record { fits = first.fits; whole = whole ∙ ap (λ (t : List ℕ). codes " take op " ++ t) first.whole }))

took_vote_back : (bytes behind : List ℕ) (told : ToldInput) (rest : List ℕ) → bytes ≡ codes " take vote " ++ behind
    → took_vote_at behind ≡ Some (told, rest) → IsRead told_part FitsTold bytes told rest
unfolding took_vote_at
took_vote_back bytes behind told rest whole e =
    bind_back e (λ (voter : ℕ × List ℕ) is_voter e. bind_back e (λ (next : List ℕ) is_space e.
    bind_back e (λ (proposal : DotValue × List ℕ) is_dot e. bind_back e (λ (ballot : Bool × List ℕ) is_ballot e.
    let first = site_back behind voter.0 voter.1 is_voter in
    let second = after_back (codes " ") voter.1 next is_space in
    let third = dot_back next proposal.0 proposal.1 is_dot in
    let fourth = ballot_back proposal.1 ballot.0 ballot.1 is_ballot in
    read_as e (record {
      fits = record { voter = first.fits; proposal = third.fits };
      whole = whole ∙ ap (λ (t : List ℕ). codes " take vote " ++ t)
          (two (decimal voter.0) (32 ∷ (dotted proposal.0 ++ yes_or_no ballot.0)) voter.1 ballot.1 first.whole
          (second ∙ ap (λ (t : List ℕ). 32 ∷ t) (two (dotted proposal.0)
          (yes_or_no ballot.0) proposal.1 ballot.1 third.whole fourth)));
    })))))

asked_back : (bytes : List ℕ) (told : ToldInput) (rest : List ℕ) → asked_at bytes ≡ Some (told, rest)
    → IsRead told_part FitsTold bytes told rest
unfolding asked_at
asked_back bytes told rest e =
    bind_back e (λ (request : Request × List ℕ) is_request e.
    let first = request_back bytes request.0 request.1 is_request in
    read_as e (record { fits = first.fits; whole = first.whole }))

pub told_back : (bytes : List ℕ) (told : ToldInput) (rest : List ℕ) → told_at bytes ≡ Some (told, rest)
    → IsRead told_part FitsTold bytes told rest
unfolding told_at
told_back bytes told rest e =
    choose_back (codes " take op ") e (λ behind whole e. took_op_back bytes behind told rest whole e)
    (λ e. choose_back (codes " take vote ") e (λ behind whole e. took_vote_back bytes behind told rest whole e)
    (λ e. choose_back (codes " next") e (λ behind whole e. read_as e (record { fits = tt; whole = whole }))
    (λ e. asked_back bytes told rest e)))

-- an input begins with a space
pub told_ends : (told : ToldInput) (rest : List ℕ) → NoDigit (told_part told ++ rest)
told_ends (Asked (Insert index atom)) rest = refl
told_ends (Asked (InsertAfter place atom)) rest = refl
told_ends (Asked (Paste index run)) rest = refl
told_ends (Asked (PasteAfter place run)) rest = refl
told_ends (Asked (Delete index)) rest = refl
told_ends (Asked (DeleteAtom id)) rest = refl
told_ends (Asked (Propose slot)) rest = refl
told_ends (Asked (ProposeAt index bit)) rest = refl
told_ends (Asked (Cancel proposal)) rest = refl
told_ends (TookOp dot) rest = refl
told_ends (TookVote vote) rest = refl
told_ends Went rest = refl
