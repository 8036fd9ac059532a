-- Inputs, of which nothing stands behind.
use Rattle.std.proofs.Common.{◌≡◌, ℕ, ◌+◌, ◌≤◌, List, [], ◌∷◌, ◌++◌, length, Ok, Err, refl}
use Rattle.std.proofs.Common.{sym, ap, ◌∙◌, arith, length-append}
use Rattle.std.specs.Prelude.{Option, None, Some}
use Rattle.std.proofs.lemmas.List.{append-nil}
use Rattle.td_op.specs.Input.{IsRequest}
use Rattle.td_op.specs.Message.{IsMessage}
use Rattle.td_op.specs.declared.request.Request.{Request}
use Rattle.td_op.specs.declared.request.Request.TheVariants.{Insert, InsertAfter, Paste, PasteAfter, Delete}
use Rattle.td_op.specs.declared.request.Request.TheVariants.{DeleteAtom, Propose, ProposeAt, Cancel}
use Rattle.td_op.specs.declared.input.Input.{Input}
use Rattle.td_op.specs.declared.input.Input.TheVariants.{Local, Take, Next}
use Rattle.td_op.specs.declared.message.Message.{Message}
use Rattle.td_wire.specs.declared.format.Format.TheVariants.{Two}
use Rattle.td_wire.specs.Spelling.{number_bytes, run_bytes, spelling, Spells}
use Rattle.td_wire.proofs.Exact.{ok_is, ok_differs}
use Rattle.td_wire.proofs.Decoding.{one_message}
use Rattle.td_wire.proofs.Sizes.{identity_short, slot_short, run_short, spelling_short}
use Rattle.td_base.specs.Value.{AtomIdValue}
use Rattle.td_base.specs.Atom.{IsAtom}
use Rattle.td_input.specs.declared.writing.TheConstants.{MAX_INPUT_LEN}
use Rattle.td_input.specs.Spelling.{place_bytes, atom_bytes, request_bytes, IsIndex, index_of, CanWrite, input_bytes}
use Rattle.td_input.specs.Reading.{request_at}
use Rattle.td_input.proofs.Requests.{request_again, request_sound}

-- ---- requests

pub whole_request : (bytes : List ℕ) (r : Request) → IsRequest r → IsIndex (index_of r) → bytes ≡ request_bytes r
    → request_at bytes ≡ Ok (r, [])
whole_request bytes r h small is =
    ap request_at (is ∙ sym (append-nil (request_bytes r))) ∙ request_again r [] h small

pub read_whole : (bytes : List ℕ) (r : Request) (rest : List ℕ) → request_at bytes ≡ Ok (r, rest) → rest ≡ [] → bytes
    ≡ request_bytes r
read_whole bytes r rest e none =
    request_sound bytes r rest e ∙ ap (λ (ys : List ℕ). request_bytes r ++ ys) none ∙ append-nil (request_bytes r)

pub only_request : (bytes : List ℕ) (r s : Request) (rest : List ℕ) → request_at bytes ≡ Ok (r, rest) → IsRequest s
    → IsIndex (index_of s) → bytes ≡ request_bytes s → (r ≡ s) × (rest ≡ [])
only_request bytes r s rest e h small is =
    let both = ok_is (r, rest) (s, []) (sym e ∙ whole_request bytes s h small is) in
    (ap (λ (p : Request × List ℕ). p.0) both, ap (λ (p : Request × List ℕ). p.1) both)

pub none_read : (bytes : List ℕ) (left : ℕ) (s : Request) → request_at bytes ≡ Err left → IsRequest s
    → IsIndex (index_of s) → bytes ≡ request_bytes s → ⊥
none_read bytes left s e h small is = ok_differs (s, []) left (sym (whole_request bytes s h small is) ∙ e)

-- ---- no bytes are two inputs

first_same : (x y : ℕ) (xs ys : List ℕ) → x ∷ xs ≡ y ∷ ys → x ≡ y
first_same x y xs ys e = cc

rest_same : (x y : ℕ) (xs ys : List ℕ) → x ∷ xs ≡ y ∷ ys → xs ≡ ys
rest_same x y xs ys e = cc

same_request : (r s : Request) → IsRequest r × IsIndex (index_of r) → IsRequest s × IsIndex (index_of s)
    → request_bytes r ≡ request_bytes s → r ≡ s
same_request r s p q e =
    (only_request (request_bytes r) r s [] (whole_request (request_bytes r) r p.0 p.1 refl) q.0 q.1 e).0

spelled : (m : Message) → IsMessage m → Spells Two m (spelling Two m)
spelled m h = record { can = h; bytes_are = refl }

pub one_input : (a b : Input) → CanWrite a → CanWrite b → input_bytes a ≡ input_bytes b → a ≡ b
one_input (Local r) (Local s) p q e = ap (λ (x : Request). Local x)
    (same_request r s p q (rest_same 1 1 (request_bytes r) (request_bytes s) e))
one_input (Local r) (Take m) p q e = absurd (omega (arith, first_same 1 2 (request_bytes r) (spelling Two m) e))
one_input (Local r) Next p q e = absurd (omega (arith, first_same 1 3 (request_bytes r) [] e))
one_input (Take m) (Local s) p q e = absurd (omega (arith, first_same 2 1 (spelling Two m) (request_bytes s) e))
one_input (Take m) (Take n) p q e =
    ap (λ (x : Message). Take x)
    (one_message (spelling Two m) Two Two m n (spelled m p)
    (record { can = q; bytes_are = rest_same 2 2 (spelling Two m) (spelling Two n) e }))
one_input (Take m) Next p q e = absurd (omega (arith, first_same 2 3 (spelling Two m) [] e))
one_input Next (Local s) p q e = absurd (omega (arith, first_same 3 1 [] (request_bytes s) e))
one_input Next (Take n) p q e = absurd (omega (arith, first_same 3 2 [] (spelling Two n) e))
one_input Next Next p q e = refl

-- ---- how long they are

place_short : (p : Option AtomIdValue) → length (place_bytes p) ≤ 8
place_short None = omega arith
place_short (Some x) = omega (arith, identity_short Two x)

one_run : (a : List ℕ) → IsAtom a → length (atom_bytes a) ≤ 129
one_run a h = omega (arith, h.short, ap length (append-nil a))

request_short : (r : Request) → IsRequest r → length (request_bytes r) ≤ 1 + 8 + 129
request_short (Insert i a) h = omega (arith, one_run a h, length-append (number_bytes i) (atom_bytes a))
request_short (InsertAfter p a) h = omega (
  arith,
  place_short p,
  one_run a h.1,
  length-append (place_bytes p)
      (atom_bytes a),
)
request_short (Delete i) h = omega arith
request_short (DeleteAtom x) h = omega (arith, identity_short Two x)
request_short (Propose s) h = omega (arith, slot_short Two s)
request_short (ProposeAt i b) h = omega arith
request_short (Cancel d) h = omega arith
request_short (Paste i r) h = omega (arith, run_short Two r h, length-append (number_bytes i) (run_bytes Two r))
request_short (PasteAfter p r) h = omega (
  arith,
  place_short p,
  run_short Two r h.1,
  length-append (place_bytes p)
      (run_bytes Two r),
)

pub input_short : (input : Input) → CanWrite input → length (input_bytes input) ≤ MAX_INPUT_LEN
input_short (Local r) h = omega (arith, request_short r h.0)
input_short (Take m) h = omega (arith, spelling_short Two m h)
input_short Next h = omega arith
