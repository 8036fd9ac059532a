-- A request is read exactly.
use Rattle.std.proofs.Common.{◌≡◌, ℕ, zero, suc, ◌≤◌, List, ◌∷◌, ◌++◌, Ok, refl, sym, ap, ◌∙◌, arith}
use Rattle.std.specs.Prelude.{Option}
use Rattle.td_base.specs.Atom.{IsAtom}
use Rattle.td_base.specs.Run.{IsRun}
use Rattle.td_base.specs.Value.{DotValue, AtomIdValue, IsDot, IsAtomId}
use Rattle.td_base.specs.declared.bit.Bit.{Bit}
use Rattle.td_path.specs.declared.slot.Slot.{Slot}
use Rattle.td_path.specs.Slot.{IsSlot}
use Rattle.td_op.specs.Input.{IsPlace, IsRequest}
use Rattle.td_op.specs.declared.request.Request.{Request}
use Rattle.td_op.specs.declared.request.Request.TheVariants.{Insert, InsertAfter, Paste, PasteAfter, Delete}
use Rattle.td_op.specs.declared.request.Request.TheVariants.{DeleteAtom, Propose, ProposeAt, Cancel}
use Rattle.td_wire.specs.declared.format.Format.TheVariants.{Two}
use Rattle.td_wire.specs.Spelling.{number_bytes, dot_bytes, identity_bytes, slot_bytes, run_bytes}
use Rattle.td_wire.specs.Reading.{Read, ◌>>=◌, byte_at, dot_at, identity_at, slot_at, run_at}
use Rattle.td_wire.proofs.Exact.{bind_ok}
use Rattle.td_input.specs.Spelling.{place_bytes, atom_bytes, request_bytes, IsIndex, index_of}
use Rattle.td_input.specs.Reading.{index_at, side_at, place_at, one_atom_at, fields_at, request_at}
use Rattle.td_input.proofs.Fields.{Exact, wrapped, and_then, one_again, two_again, one_sound, two_sound}
use Rattle.td_input.proofs.Fields.{byte_sound, dot_exact, identity_exact, slot_exact, run_exact, side_bytes}
use Rattle.td_input.proofs.Fields.{Any, side_exact, index_exact, place_exact, atom_exact}

-- ---- what is spelled is read

pub request_again : (r : Request) (rest : List ℕ) → IsRequest r → IsIndex (index_of r)
    → request_at (request_bytes r ++ rest) ≡ Ok (r, rest)
unfolding request_at fields_at
request_again (Insert i a) rest h small = two_again IsIndex number_bytes index_at IsAtom atom_bytes one_atom_at
    index_exact atom_exact (λ (i : ℕ) (a : List ℕ). Insert i a) i a rest small h
request_again (InsertAfter p a) rest h small =
    two_again IsPlace place_bytes place_at IsAtom atom_bytes one_atom_at place_exact atom_exact
    (λ (p : Option AtomIdValue) (a : List ℕ). InsertAfter p a) p a rest h.0 h.1
request_again (Delete i) rest h small = one_again IsIndex number_bytes index_at index_exact (λ (i : ℕ). Delete i) i
    rest small
request_again (DeleteAtom x) rest h small = one_again IsAtomId (identity_bytes Two) (identity_at Two 64)
    identity_exact (λ (x : AtomIdValue). DeleteAtom x) x rest h
request_again (Propose s) rest h small = one_again IsSlot (slot_bytes Two) (slot_at Two 64) slot_exact
    (λ (s : Slot). Propose s) s rest h
request_again (ProposeAt i b) rest h small = two_again IsIndex number_bytes index_at Any side_bytes side_at
    index_exact side_exact (λ (i : ℕ) (b : Bit). ProposeAt i b) i b rest small tt
request_again (Cancel d) rest h small = one_again IsDot dot_bytes (dot_at 64) dot_exact (λ (d : DotValue). Cancel d) d
    rest h
request_again (Paste i r) rest h small = two_again IsIndex number_bytes index_at IsRun (run_bytes Two) (run_at Two)
    index_exact run_exact (λ (i : ℕ) (r : List (List ℕ)). Paste i r) i r rest small h
request_again (PasteAfter p r) rest h small = two_again IsPlace place_bytes place_at IsRun (run_bytes Two)
    (run_at Two) place_exact run_exact (λ (p : Option AtomIdValue) (r : List (List ℕ)). PasteAfter p r) p r rest h.0 h.1

-- ---- what is read is spelled so

by_one : {A : Type 0} (P : A → Type 0) (s : A → List ℕ) (r : List ℕ → Read A) → Exact P s r
    → (f : A → Request) (kind : ℕ)
    → ((a : A) → request_bytes (f a) ≡ kind ∷ s a) → (xs : List ℕ) (c : Request) (rest : List ℕ)
    → (r xs >>= wrapped f) ≡ Ok (c, rest) → kind ∷ xs ≡ request_bytes c ++ rest
by_one P s r one f kind spelled xs c rest e =
    let p = one_sound P s r one f xs c rest e in
    ap (λ (ys : List ℕ). kind ∷ ys) p.parts ∙ ap (λ (ys : List ℕ). ys ++ rest) (sym (spelled p.first))
    ∙ ap (λ (q : Request). request_bytes q ++ rest) p.is

by_two : {A B : Type 0} (P : A → Type 0) (s : A → List ℕ) (r : List ℕ → Read A) (Q : B → Type 0) (t : B → List ℕ)
    (u : List ℕ → Read B)
    → Exact P s r → Exact Q t u → (f : A → B → Request) (kind : ℕ)
    → ((a : A) (b : B) → request_bytes (f a b) ≡ kind ∷ s a ++ t b) → (xs : List ℕ) (c : Request) (rest : List ℕ)
    → (r xs >>= and_then u f) ≡ Ok (c, rest) → kind ∷ xs ≡ request_bytes c ++ rest
by_two P s r Q t u one two f kind spelled xs c rest e =
    let p = two_sound P s r Q t u one two f xs c rest e in
    ap (λ (ys : List ℕ). kind ∷ ys) p.parts ∙ ap (λ (ys : List ℕ). ys ++ rest) (sym (spelled p.first p.second))
    ∙ ap (λ (q : Request). request_bytes q ++ rest) p.is

fields_sound : (kind : ℕ) (xs : List ℕ) (c : Request) (rest : List ℕ) → 1 ≤ kind → kind ≤ 9
    → fields_at kind xs ≡ Ok (c, rest) → kind ∷ xs ≡ request_bytes c ++ rest
unfolding fields_at
fields_sound zero xs c rest p q e = absurd (omega (arith, p))
fields_sound (suc zero) xs c rest p q e = by_two IsIndex number_bytes index_at IsAtom atom_bytes one_atom_at
    index_exact atom_exact (λ (i : ℕ) (a : List ℕ). Insert i a) 1 (λ i a. refl) xs c rest e
fields_sound (suc (suc zero)) xs c rest p q e =
    by_two IsPlace place_bytes place_at IsAtom atom_bytes one_atom_at place_exact atom_exact
    (λ (p : Option AtomIdValue) (a : List ℕ). InsertAfter p a) 2 (λ p a. refl) xs c rest e
fields_sound (suc (suc (suc zero))) xs c rest p q e =
    by_one IsIndex number_bytes index_at index_exact (λ (i : ℕ). Delete i) 3 (λ i. refl) xs c rest e
fields_sound (suc (suc (suc (suc zero)))) xs c rest p q e =
    by_one IsAtomId (identity_bytes Two) (identity_at Two 64) identity_exact (λ (x : AtomIdValue). DeleteAtom x) 4
    (λ x. refl) xs c rest e
fields_sound (suc (suc (suc (suc (suc zero))))) xs c rest p q e =
    by_one IsSlot (slot_bytes Two) (slot_at Two 64) slot_exact (λ (s : Slot). Propose s) 5 (λ s. refl) xs c rest e
fields_sound (suc (suc (suc (suc (suc (suc zero)))))) xs c rest p q e =
    by_two IsIndex number_bytes index_at Any side_bytes side_at index_exact side_exact
    (λ (i : ℕ) (b : Bit). ProposeAt i b) 6 (λ i b. refl) xs c rest e
fields_sound (suc (suc (suc (suc (suc (suc (suc zero))))))) xs c rest p q e =
    by_one IsDot dot_bytes (dot_at 64) dot_exact (λ (d : DotValue). Cancel d) 7 (λ d. refl) xs c rest e
fields_sound (suc (suc (suc (suc (suc (suc (suc (suc zero)))))))) xs c rest p q e =
    by_two IsIndex number_bytes index_at IsRun (run_bytes Two) (run_at Two) index_exact run_exact
    (λ (i : ℕ) (r : List (List ℕ)). Paste i r) 8 (λ i r. refl) xs c rest e
fields_sound (suc (suc (suc (suc (suc (suc (suc (suc (suc zero))))))))) xs c rest p q e =
    by_two IsPlace place_bytes place_at IsRun (run_bytes Two) (run_at Two) place_exact run_exact
    (λ (p : Option AtomIdValue) (r : List (List ℕ)). PasteAfter p r) 9 (λ p r. refl) xs c rest e
fields_sound (suc (suc (suc (suc (suc (suc (suc (suc (suc (suc k)))))))))) xs c rest p q e = absurd (omega (arith, q))

pub request_sound : (xs : List ℕ) (c : Request) (rest : List ℕ) → request_at xs ≡ Ok (c, rest) → xs ≡ request_bytes c
    ++ rest
unfolding request_at
request_sound xs c rest e =
    let step = bind_ok (byte_at 1 9 xs) (λ (kind : ℕ × List ℕ). fields_at kind.0 kind.1) (c, rest) e in
    let byte = byte_sound 1 9 (omega arith) xs step.0.0 step.0.1 step.1 in
    byte.0 ∙ fields_sound step.0.0 step.0.1 c rest byte.1.least byte.1.most step.2
