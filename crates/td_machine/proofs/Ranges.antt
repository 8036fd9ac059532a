-- Tests that compute: a message whose parts pass them is a value of its type.
use Rattle.std.proofs.Common.{◌≡◌, ◌≤◌, ◌+◌, ℕ, zero, suc, List, [], ◌∷◌, Bool, true, ◌&&◌}
use Rattle.std.proofs.Common.{length, nat_eq, nat_le, Option, Some, None, arith}
use Rattle.std.specs.Prelude.{IfSome, All}
use Rattle.std.specs.List.{list_all, concat}
use Rattle.std.specs.Str.{IsAscii}
use Rattle.std.proofs.lemmas.Str.{IsUtf8-from_ascii}
use Rattle.std.proofs.lemmas.Bool.{leb-true, eqb-true, and_parts}
use Rattle.std.proofs.lemmas.List.Elements.{All-nil, All-cons}
use Rattle.td_base.specs.declared.atom.TheConstants.{MAX_ATOM_LEN}
use Rattle.td_base.specs.declared.run.TheConstants.{MAX_RUN_LEN}
use Rattle.td_base.specs.declared.site.TheConstants.{MAX_SITE}
use Rattle.td_base.specs.declared.dot.TheConstants.{MAX_SEQ}
use Rattle.td_base.specs.declared.atom_id.TheConstants.{MAX_OFFSET}
use Rattle.td_base.specs.Value.{DotValue, AtomIdValue, IsSite, IsDot, IsAtomId}
use Rattle.td_base.specs.Atom.{IsAtom}
use Rattle.td_base.specs.Run.{IsRun}
use Rattle.td_clock.specs.Vector.{IsVector, vector_get}
use Rattle.td_path.specs.declared.slot.Slot.{Slot}
use Rattle.td_path.specs.declared.slot.Slot.TheVariants.{Root, At}
use Rattle.td_path.specs.Slot.{IsSlot}
use Rattle.td_op.specs.declared.body.Body.{Body}
use Rattle.td_op.specs.declared.body.Body.TheVariants.{Insert, Delete, Propose, Commit, Abort}
use Rattle.td_op.specs.declared.message.Message.{Message}
use Rattle.td_op.specs.declared.message.Message.TheVariants.{Op as AnOp, Vote as AVote}
use Rattle.td_op.specs.Op.{OpValue, IsOp, body_site}
use Rattle.td_op.specs.Message.{IsBody, IsMessage}

all_from : {X : Type 0} (P : X → Type 0) (test : X → Bool) → ((x : X) → test x ≡ true → P x) → (xs : List X)
    → list_all test xs ≡ true → All P xs
all_from P test f [] h = All-nil P
all_from P test f (x ∷ xs) h =
    let p = and_parts (test x) (list_all test xs) h in All-cons P x xs (f x p.0) (all_from P test f xs p.1)

abbrev pub site_fits : ℕ → Bool
site_fits site = nat_le 1 site && nat_le site MAX_SITE

site_from : (site : ℕ) → site_fits site ≡ true → IsSite site
site_from site h =
    let p = and_parts _ _ h in record { least = leb-true 1 site p.0; greatest = leb-true site MAX_SITE p.1 }

abbrev pub dot_fits : DotValue → Bool
dot_fits d = site_fits d.site && (nat_le 1 d.seq && nat_le d.seq MAX_SEQ)

dot_from : (d : DotValue) → dot_fits d ≡ true → IsDot d
dot_from d h =
    let p = and_parts _ _ h in
    let q = and_parts _ _ p.1 in
    record { site = site_from d.site p.0; least = leb-true 1 d.seq q.0; greatest = leb-true d.seq MAX_SEQ q.1 }

abbrev pub id_fits : AtomIdValue → Bool
id_fits x = dot_fits x.dot && nat_le x.offset MAX_OFFSET

id_from : (x : AtomIdValue) → id_fits x ≡ true → IsAtomId x
id_from x h =
    let p = and_parts _ _ h in record { dot = dot_from x.dot p.0; greatest = leb-true x.offset MAX_OFFSET p.1 }

abbrev pub slot_fits : Slot → Bool
slot_fits Root = true
slot_fits (At x bit) = id_fits x

slot_from : (s : Slot) → slot_fits s ≡ true → IsSlot s
slot_from Root h = tt
slot_from (At x bit) h = id_from x h

-- of ASCII alone
abbrev pub is_ascii : ℕ → Bool
is_ascii c = nat_le c 127

ascii_from : (bytes : List ℕ) → list_all is_ascii bytes ≡ true → IsAscii bytes
ascii_from [] h i = omega arith
ascii_from (b ∷ bytes) h zero =
    let low : b ≤ 127 = leb-true b 127 (and_parts (is_ascii b) (list_all is_ascii bytes) h).0 in omega (arith, low)
ascii_from (b ∷ bytes) h (suc i) = ascii_from bytes (and_parts (is_ascii b) (list_all is_ascii bytes) h).1 i

abbrev pub atom_fits : List ℕ → Bool
atom_fits atom = nat_le 1 (length atom) && (nat_le (length atom) MAX_ATOM_LEN && list_all is_ascii atom)

pub atom_from : (atom : List ℕ) → atom_fits atom ≡ true → IsAtom atom
atom_from atom h =
    let p = and_parts (nat_le 1 (length atom)) (nat_le (length atom) MAX_ATOM_LEN && list_all is_ascii atom) h in
    let q = and_parts (nat_le (length atom) MAX_ATOM_LEN) (list_all is_ascii atom) p.1 in
    record {
      some = leb-true 1 (length atom) p.0;
      short = leb-true (length atom) MAX_ATOM_LEN q.0;
      text = IsUtf8-from_ascii atom (ascii_from atom q.1);
    }

abbrev pub run_fits : List (List ℕ) → Bool
run_fits run = nat_le 1 (length run) && (nat_le (length (concat run)) MAX_RUN_LEN && list_all atom_fits run)

run_from : (run : List (List ℕ)) → run_fits run ≡ true → IsRun run
run_from run h =
    let p = and_parts (nat_le 1 (length run)) (nat_le (length (concat run)) MAX_RUN_LEN && list_all atom_fits run) h in
    let q = and_parts (nat_le (length (concat run)) MAX_RUN_LEN) (list_all atom_fits run) p.1 in
    record {
      some = leb-true 1 (length run) p.0;
      short = leb-true (length (concat run)) MAX_RUN_LEN q.0;
      each = all_from IsAtom atom_fits atom_from run q.1;
    }

-- a number of a vector
abbrev pub is_count : ℕ → Bool
is_count n = nat_le n MAX_SEQ

abbrev pub vector_fits : List ℕ → Bool
vector_fits v = nat_le 1 (length v) && (nat_le (length v) MAX_SITE && list_all is_count v)

vector_from : (v : List ℕ) → vector_fits v ≡ true → IsVector v
vector_from v h =
    let p = and_parts (nat_le 1 (length v)) (nat_le (length v) MAX_SITE && list_all is_count v) h in
    let q = and_parts (nat_le (length v) MAX_SITE) (list_all is_count v) p.1 in
    record {
      some = leb-true 1 (length v) p.0;
      short = leb-true (length v) MAX_SITE q.0;
      small = all_from (λ (n : ℕ). n ≤ MAX_SEQ) is_count (λ n k. leb-true n MAX_SEQ k) v q.1;
    }

abbrev pub body_fits : Body → Bool
body_fits (Insert slot run) = slot_fits slot && run_fits run
body_fits (Delete x) = id_fits x
body_fits (Propose slot) = slot_fits slot
body_fits (Commit p) = dot_fits p
body_fits (Abort p) = dot_fits p

body_from : (body : Body) → body_fits body ≡ true → IsBody body
body_from (Insert slot run) h =
    let p = and_parts (slot_fits slot) (run_fits run) h in (slot_from slot p.0, run_from run p.1)
body_from (Delete x) h = id_from x h
body_from (Propose slot) h = slot_from slot h
body_from (Commit p) h = dot_from p h
body_from (Abort p) h = dot_from p h

abbrev pub is_upto : ℕ → Option ℕ → Bool
is_upto n None = true
is_upto n (Some site) = nat_le site n

upto_from : (n : ℕ) (o : Option ℕ) → is_upto n o ≡ true → IfSome o (λ site. site ≤ n)
upto_from n None h = tt
upto_from n (Some site) h = leb-true site n h

abbrev pub is_op : OpValue → Bool
is_op x =
    nat_le x.dot.site (length x.deps)
    && (is_upto (length x.deps) (body_site x.body) && nat_eq (vector_get x.deps x.dot.site + 1) x.dot.seq)

op_from : (x : OpValue) → is_op x ≡ true → IsOp x
op_from x h =
    let p = and_parts _ _ h in
    let q = and_parts _ _ p.1 in
    record {
      own = leb-true x.dot.site (length x.deps) p.0;
      named = upto_from (length x.deps) (body_site x.body) q.0;
      next = eqb-true (vector_get x.deps x.dot.site + 1) x.dot.seq q.1;
    }

abbrev pub message_fits : Message → Bool
message_fits (AnOp x) = dot_fits x.dot && (vector_fits x.deps && (body_fits x.body && is_op x))
message_fits (AVote v) = site_fits v.voter && dot_fits v.proposal

pub message_from : (message : Message) → message_fits message ≡ true → IsMessage message
message_from (AnOp x) h =
    let p = and_parts (dot_fits x.dot) (vector_fits x.deps && (body_fits x.body && is_op x)) h in
    let q = and_parts (vector_fits x.deps) (body_fits x.body && is_op x) p.1 in
    let r = and_parts (body_fits x.body) (is_op x) q.1 in
    record { dot = dot_from x.dot p.0; deps = vector_from x.deps q.0; body = body_from x.body r.0; op = op_from x r.1 }
message_from (AVote v) h =
    let p = and_parts (site_fits v.voter) (dot_fits v.proposal) h in
    record { voter = site_from v.voter p.0; proposal = dot_from v.proposal p.1 }
