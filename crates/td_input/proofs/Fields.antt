-- Fields that are read exactly: what is read is spelled so, and what is spelled so is read.
use Rattle.std.proofs.Common.{◌≡◌, ℕ, zero, suc, cond, eqb, ◌/◌, ◌%◌, ◌<◌, ◌≤◌, List, [], ◌∷◌, ◌++◌}
use Rattle.std.proofs.Common.{length, get_or, Ok, refl, sym, ap, ◌∙◌, append_assoc, arith}
use Rattle.std.specs.Prelude.{Option, None, Some}
use Rattle.std.specs.Int.{w32, from_be_bytes}
use Rattle.std.proofs.lemmas.List.{append-nil}
use Rattle.std.proofs.lemmas.Nat.{from_be_bytes-to_be_bytes_4, be_bytes_4}
use Rattle.td_base.specs.Atom.{IsAtom}
use Rattle.td_base.specs.Run.{IsRun}
use Rattle.td_base.specs.Value.{DotValue, AtomIdValue, IsDot, IsAtomId}
use Rattle.td_base.specs.declared.bit.Bit.{Bit}
use Rattle.td_base.specs.declared.bit.Bit.TheVariants.{Left, Right}
use Rattle.td_path.specs.declared.slot.Slot.{Slot}
use Rattle.td_path.specs.declared.slot.Slot.TheVariants.{Root, At}
use Rattle.td_path.specs.Slot.{IsSlot}
use Rattle.td_op.specs.Input.{IsPlace}
use Rattle.td_wire.specs.declared.format.Format.TheVariants.{Two}
use Rattle.td_wire.specs.Spelling.{number_bytes, dot_bytes, identity_bytes, bit_byte, slot_bytes, run_bytes}
use Rattle.td_wire.specs.Reading.{Read, ◌>>=◌, byte_at, bit_of, dot_at, identity_at, slot_at, atom_at, run_at}
use Rattle.td_wire.proofs.Exact.{Reads, Field, ok, ok_is, bind_ok}
use Rattle.td_wire.proofs.Bytes.{InRange, byte_reads}
use Rattle.td_wire.proofs.Fields.{DotIn, dot_reads, IdentityIn, identity_reads, SlotIn, slot_reads}
use Rattle.td_wire.proofs.Runs.{atom_reads, RunIn, run_reads}
use Rattle.td_input.specs.Spelling.{place_bytes, atom_bytes, IsIndex}
use Rattle.td_input.specs.Reading.{index_at, side_at, place_at, one_atom_at}

pub record Exact {A : Type 0} (P : A → Type 0) (spell : A → List ℕ) (read : List ℕ → Read A) : Type 0 where
  pub sound : (xs : List ℕ) (a : A) (rest : List ℕ) → read xs ≡ Ok (a, rest) → xs ≡ spell a ++ rest
  pub again : (a : A) (rest : List ℕ) → P a → read (spell a ++ rest) ≡ Ok (a, rest)

-- a field of a packet, of which the values with Q are some
from_reads : {A : Type 0} (P Q : A → Type 0) (s : A → List ℕ) (r : List ℕ → Read A) → ((a : A) → Q a → P a)
    → Reads (Field P s) r → Exact Q s r
from_reads P Q s r is reads = record {
  sound = λ xs a rest e. let p = reads.sound xs a rest e in p.1 ∙ ap (λ (ys : List ℕ). ys ++ rest) p.2.is;
  again = λ a rest q. reads.again a (s a) rest (record { can = is a q; is = refl });
}

-- ---- one field, and one and another

abbrev pub wrapped : {A C : Type 0} → (A → C) → A × List ℕ → Read C
wrapped f x = Ok (f x.0, x.1)

abbrev pub and_then : {A B C : Type 0} → (List ℕ → Read B) → (A → B → C) → A × List ℕ → Read C
and_then u f x = u x.1 >>= wrapped (f x.0)

pub one_again : {A C : Type 0} (P : A → Type 0) (s : A → List ℕ) (r : List ℕ → Read A) → Exact P s r
    → (f : A → C) (a : A) (rest : List ℕ)
    → P a → (r (s a ++ rest) >>= wrapped f) ≡ Ok (f a, rest)
one_again {A} {C} P s r one f a rest p =
    ap (λ (x : Read A). x >>= wrapped f) (one.again a rest p)

pub two_again : {A B C : Type 0} (P : A → Type 0) (s : A → List ℕ) (r : List ℕ → Read A) (Q : B → Type 0)
    (t : B → List ℕ) (u : List ℕ → Read B)
    → Exact P s r → Exact Q t u → (f : A → B → C) (a : A) (b : B) (rest : List ℕ) → P a → Q b
    → (r ((s a ++ t b) ++ rest) >>= and_then u f) ≡ Ok (f a b, rest)
two_again {A} {B} {C} P s r Q t u one two f a b rest p q =
    ap (λ (ys : List ℕ). r ys >>= and_then u f) (append_assoc (s a) (t b) rest)
    ∙ ap (λ (x : Read A). x >>= and_then u f) (one.again a (t b ++ rest) p)
    ∙ ap (λ (y : Read B). y >>= wrapped (f a)) (two.again b rest q)

-- what was read, and the field that it is made of
pub record One {A C : Type 0} (s : A → List ℕ) (f : A → C) (xs : List ℕ) (c : C) (rest : List ℕ) : Type 0 where
  pub first : A
  pub is : f first ≡ c
  pub parts : xs ≡ s first ++ rest

pub one_sound : {A C : Type 0} (P : A → Type 0) (s : A → List ℕ) (r : List ℕ → Read A) → Exact P s r
    → (f : A → C) (xs : List ℕ) (c : C) (rest : List ℕ)
    → (r xs >>= wrapped f) ≡ Ok (c, rest) → One s f xs c rest
one_sound {A} {C} P s r one f xs c rest e =
    let step = bind_ok (r xs) (wrapped f) (c, rest) e in
    let both = ok_is (f step.0.0, step.0.1) (c, rest) step.2 in
    record {
      first = step.0.0;
      is = ap (λ (p : C × List ℕ). p.0) both;
      parts = one.sound xs step.0.0 step.0.1 step.1 ∙ ap (λ (p : C × List ℕ). s step.0.0 ++ p.1) both;
    }

pub record Both {A B C : Type 0} (s : A → List ℕ) (t : B → List ℕ) (f : A → B → C) (xs : List ℕ) (c : C)
    (rest : List ℕ) : Type 0 where
  pub first : A
  pub second : B
  pub is : f first second ≡ c
  pub parts : xs ≡ (s first ++ t second) ++ rest

pub two_sound : {A B C : Type 0} (P : A → Type 0) (s : A → List ℕ) (r : List ℕ → Read A) (Q : B → Type 0)
    (t : B → List ℕ) (u : List ℕ → Read B)
    → Exact P s r → Exact Q t u → (f : A → B → C) (xs : List ℕ) (c : C) (rest : List ℕ)
    → (r xs >>= and_then u f) ≡ Ok (c, rest) → Both s t f xs c rest
two_sound {A} {B} {C} P s r Q t u one two f xs c rest e =
    let step = bind_ok (r xs) (and_then u f) (c, rest) e in
    let more = one_sound Q t u two (f step.0.0) step.0.1 c rest step.2 in
    record {
      first = step.0.0;
      second = more.first;
      is = more.is;
      parts = one.sound xs step.0.0 step.0.1 step.1 ∙ ap (λ (ys : List ℕ). s step.0.0 ++ ys) more.parts
          ∙ sym (append_assoc (s step.0.0) (t more.first) rest);
    }

-- ---- the fields of packets

from_dot : (d : DotValue) → IsDot d → DotIn 64 d
from_dot d h = record {
  site = record { least = h.site.least; most = h.site.greatest };
  seq = record { least = h.least; most = h.greatest };
}

from_identity : (x : AtomIdValue) → IsAtomId x → IdentityIn Two 64 x
from_identity x h = record { dot = from_dot x.dot h.dot; offset = h.greatest }

from_slot : (slot : Slot) → IsSlot slot → SlotIn Two 64 slot
from_slot Root h = tt
from_slot (At atom bit) h = from_identity atom h

pub dot_exact : Exact IsDot dot_bytes (dot_at 64)
dot_exact = from_reads (DotIn 64) IsDot dot_bytes (dot_at 64) from_dot (dot_reads 64 (omega arith))

pub identity_exact : Exact IsAtomId (identity_bytes Two) (identity_at Two 64)
identity_exact = from_reads (IdentityIn Two 64) IsAtomId (identity_bytes Two) (identity_at Two 64) from_identity
    (identity_reads Two 64 (omega arith))

pub slot_exact : Exact IsSlot (slot_bytes Two) (slot_at Two 64)
slot_exact = from_reads (SlotIn Two 64) IsSlot (slot_bytes Two) (slot_at Two 64) from_slot
    (slot_reads Two 64 (omega arith))

pub run_exact : Exact IsRun (run_bytes Two) (run_at Two)
run_exact = from_reads (RunIn Two) IsRun (run_bytes Two) (run_at Two) (λ atoms h. h) (run_reads Two)

-- ---- a byte in a range

pub byte_sound : (low high : ℕ) → low ≤ high → (xs : List ℕ) (n : ℕ) (rest : List ℕ) → byte_at low high xs
    ≡ Ok (n, rest) → (xs ≡ n ∷ rest) × InRange low high n
byte_sound low high some xs n rest e =
    let p = (byte_reads low high some).sound xs n rest e in (p.1 ∙ ap (λ (ys : List ℕ). ys ++ rest) p.2.is, p.2.can)

byte_again : (low high n : ℕ) (rest : List ℕ) → low ≤ n → n ≤ high → byte_at low high (n ∷ rest) ≡ Ok (n, rest)
byte_again low high n rest p q = (byte_reads low high (omega (arith, p, q))).again n (n ∷ []) rest
    (record { can = record { least = p; most = q }; is = refl })

-- ---- sides

abbrev pub side_bytes : Bit → List ℕ
side_bytes b = bit_byte b ∷ []

abbrev pub Any : {A : Type 0} → A → Type 0
Any a = Unit {0}

byte_back : (n : ℕ) → n ≤ 1 → bit_byte (bit_of n) ≡ n
byte_back zero h = refl
byte_back (suc zero) h = refl
byte_back (suc (suc n)) h = absurd (omega (arith, h))

side_again : (b : Bit) (rest : List ℕ) → side_at (side_bytes b ++ rest) ≡ Ok (b, rest)
unfolding side_at
side_again Left rest = refl
side_again Right rest = refl

pub side_exact : Exact Any side_bytes side_at
unfolding side_at
side_exact = record {
  sound = λ xs b rest e.
      let step = bind_ok (byte_at 0 1 xs) (λ (x : ℕ × List ℕ). ok (bit_of x.0, x.1)) (b, rest) e in
      let byte = byte_sound 0 1 (omega arith) xs step.0.0 step.0.1 step.1 in
      let both = ok_is (bit_of step.0.0, step.0.1) (b, rest) step.2 in
      byte.0 ∙ ap (λ (n : ℕ). n ∷ step.0.1) (sym (byte_back step.0.0 byte.1.most))
      ∙ ap (λ (p : Bit × List ℕ). bit_byte p.0 ∷ p.1) both;
  again = λ b rest h. side_again b rest;
}

-- ---- indexes

four_small : (a b c d : ℕ) → a < 256 → b < 256 → c < 256 → d < 256 → (i : ℕ) → get_or (a ∷ b ∷ c ∷ d ∷ []) i 0 < 256
four_small a b c d p q r s zero = p
four_small a b c d p q r s (suc zero) = q
four_small a b c d p q r s (suc (suc zero)) = r
four_small a b c d p q r s (suc (suc (suc zero))) = s
four_small a b c d p q r s (suc (suc (suc (suc i)))) = omega arith

index_sound : (xs : List ℕ) (n : ℕ) (rest : List ℕ) → index_at xs ≡ Ok (n, rest) → xs ≡ number_bytes n ++ rest
unfolding index_at
index_sound xs n rest e =
    let one = bind_ok (byte_at 0 255 xs) (λ (a : ℕ × List ℕ). byte_at 0 255 a.1 >>= λ b. byte_at 0 255 b.1 >>= λ c.
    byte_at 0 255 c.1 >>= λ d. ok (from_be_bytes w32 (a.0 ∷ b.0 ∷ c.0 ∷ d.0 ∷ []), d.1)) (n, rest) e in
    let a : ℕ = one.0.0 in
    let two = bind_ok (byte_at 0 255 one.0.1) (λ (b : ℕ × List ℕ). byte_at 0 255 b.1 >>= λ c. byte_at 0 255 c.1 >>=
    λ d. ok (from_be_bytes w32 (a ∷ b.0 ∷ c.0 ∷ d.0 ∷ []), d.1)) (n, rest) one.2 in
    let b : ℕ = two.0.0 in
    let three = bind_ok (byte_at 0 255 two.0.1) (λ (c : ℕ × List ℕ). byte_at 0 255 c.1 >>= λ d. ok
    (from_be_bytes w32 (a ∷ b ∷ c.0 ∷ d.0 ∷ []), d.1)) (n, rest) two.2 in
    let c : ℕ = three.0.0 in
    let last = bind_ok (byte_at 0 255 three.0.1) (λ (d : ℕ × List ℕ). ok
    (from_be_bytes w32 (a ∷ b ∷ c ∷ d.0 ∷ []), d.1)) (n, rest) three.2 in
    let d : ℕ = last.0.0 in
    let both = ok_is (from_be_bytes w32 (a ∷ b ∷ c ∷ d ∷ []), last.0.1) (n, rest) last.2 in
    let first = byte_sound 0 255 (omega arith) xs a one.0.1 one.1 in
    let second = byte_sound 0 255 (omega arith) one.0.1 b two.0.1 two.1 in
    let third = byte_sound 0 255 (omega arith) two.0.1 c three.0.1 three.1 in
    let fourth = byte_sound 0 255 (omega arith) three.0.1 d last.0.1 last.1 in
    let small = four_small a b c d (omega (arith, first.1.most)) (omega (arith, second.1.most))
    (omega (arith, third.1.most)) (omega (arith, fourth.1.most)) in
    let value : from_be_bytes w32 (a ∷ b ∷ c ∷ d ∷ []) ≡ n = ap (λ (p : ℕ × List ℕ). p.0) both in
    let bytes : number_bytes n ≡ a ∷ b ∷ c ∷ d ∷ [] = be_bytes_4 (a ∷ b ∷ c ∷ d ∷ []) n refl small (sym value) in
    let d_is : last.0.1 ≡ rest = ap (λ (p : ℕ × List ℕ). p.1) both in
    let tail : three.0.1 ≡ d ∷ rest = fourth.0 ∙ ap (λ (ys : List ℕ). d ∷ ys) d_is in
    let tail_2 : two.0.1 ≡ c ∷ d ∷ rest = third.0 ∙ ap (λ (ys : List ℕ). c ∷ ys) tail in
    let tail_3 : one.0.1 ≡ b ∷ c ∷ d ∷ rest = second.0 ∙ ap (λ (ys : List ℕ). b ∷ ys) tail_2 in
    first.0 ∙ ap (λ (ys : List ℕ). a ∷ ys) tail_3 ∙ ap (λ (ys : List ℕ). ys ++ rest) (sym bytes)

four_again : (a b c d n : ℕ) (rest : List ℕ) → a < 256 → b < 256 → c < 256 → d < 256
    → from_be_bytes w32 (a ∷ b ∷ c ∷ d ∷ []) ≡ n
    → index_at (a ∷ b ∷ c ∷ d ∷ rest) ≡ Ok (n, rest)
unfolding index_at
four_again a b c d n rest p q r s is =
    ap (λ (x : Read ℕ). x >>= λ a. byte_at 0 255 a.1 >>= λ b. byte_at 0 255 b.1 >>= λ c. byte_at 0 255 c.1 >>= λ d. ok
    (from_be_bytes w32 (a.0 ∷ b.0 ∷ c.0 ∷ d.0 ∷ []), d.1))
    (byte_again 0 255 a (b ∷ c ∷ d ∷ rest) (omega arith) (omega (arith, p)))
    ∙ ap (λ (x : Read ℕ). x >>= λ b. byte_at 0 255 b.1 >>= λ c. byte_at 0 255 c.1 >>= λ d. ok
    (from_be_bytes w32 (a ∷ b.0 ∷ c.0 ∷ d.0 ∷ []), d.1))
    (byte_again 0 255 b (c ∷ d ∷ rest) (omega arith) (omega (arith, q)))
    ∙ ap (λ (x : Read ℕ). x >>= λ c. byte_at 0 255 c.1 >>= λ d. ok (from_be_bytes w32 (a ∷ b ∷ c.0 ∷ d.0 ∷ []), d.1))
    (byte_again 0 255 c (d ∷ rest) (omega arith) (omega (arith, r)))
    ∙ ap (λ (x : Read ℕ). x >>= λ d. ok (from_be_bytes w32 (a ∷ b ∷ c ∷ d.0 ∷ []), d.1))
    (byte_again 0 255 d rest (omega arith) (omega (arith, s)))
    ∙ ap (λ (m : ℕ). ok (m, rest)) is

index_again : (n : ℕ) (rest : List ℕ) → IsIndex n → index_at (number_bytes n ++ rest) ≡ Ok (n, rest)
index_again n rest small =
    four_again (n / 16777216 % 256) (n / 65536 % 256) (n / 256 % 256) (n % 256) n rest (omega arith) (omega arith)
    (omega arith) (omega arith) (from_be_bytes-to_be_bytes_4 n small)

pub index_exact : Exact IsIndex number_bytes index_at
index_exact = record { sound = index_sound; again = index_again }

-- ---- places

place_of_tag : (tag : ℕ) (xs : List ℕ) (p : Option AtomIdValue) (rest : List ℕ) → tag ≤ 1
    → place_at (tag ∷ xs) ≡ Ok (p, rest) → tag ∷ xs ≡ place_bytes p ++ rest
unfolding place_at
place_of_tag zero xs p rest h e =
    let both = ok_is (None, xs) (p, rest) e in ap (λ (q : Option AtomIdValue × List ℕ). place_bytes q.0 ++ q.1) both
place_of_tag (suc zero) xs p rest h e =
    let one = one_sound IsAtomId (identity_bytes Two) (identity_at Two 64) identity_exact
    (λ (x : AtomIdValue). Some x) xs p rest e in
    ap (λ (ys : List ℕ). 1 ∷ ys) one.parts ∙ ap (λ (q : Option AtomIdValue). place_bytes q ++ rest) one.is
place_of_tag (suc (suc tag)) xs p rest h e = absurd (omega (arith, h))

place_sound : (xs : List ℕ) (p : Option AtomIdValue) (rest : List ℕ) → place_at xs ≡ Ok (p, rest) → xs ≡ place_bytes p
    ++ rest
unfolding place_at
place_sound xs p rest e =
    let step = bind_ok (byte_at 0 1 xs) (λ (tag : ℕ × List ℕ). behind tag.0 tag.1) (p, rest) e in
    let byte = byte_sound 0 1 (omega arith) xs step.0.0 step.0.1 step.1 in
    byte.0 ∙ place_of_tag step.0.0 step.0.1 p rest byte.1.most (ap place_at (sym byte.0) ∙ e)
  where
    behind : ℕ → List ℕ → Read (Option AtomIdValue)
    behind tag ys = cond (eqb tag 0) (Ok (None, ys)) (identity_at Two 64 ys >>= λ x. Ok (Some x.0, x.1))

place_again : (p : Option AtomIdValue) (rest : List ℕ) → IsPlace p → place_at (place_bytes p ++ rest) ≡ Ok (p, rest)
unfolding place_at
place_again None rest h = refl
place_again (Some x) rest h = one_again IsAtomId (identity_bytes Two) (identity_at Two 64) identity_exact
    (λ (x : AtomIdValue). Some x) x rest h

pub place_exact : Exact IsPlace place_bytes place_at
place_exact = record { sound = place_sound; again = place_again }

-- ---- atoms

atom_is : (a rest : List ℕ) → atom_bytes a ++ rest ≡ 1 ∷ length a ∷ (a ++ rest)
atom_is a rest = ap (λ (ys : List ℕ). 1 ∷ length a ∷ (ys ++ rest)) (append-nil a)

atom_sound : (xs a rest : List ℕ) → one_atom_at xs ≡ Ok (a, rest) → xs ≡ atom_bytes a ++ rest
unfolding one_atom_at
atom_sound xs a rest e =
    let one = bind_ok (byte_at 1 1 xs) (λ (one : ℕ × List ℕ). byte_at 1 64 one.1 >>= λ len. atom_at len.0 len.1)
    (a, rest) e in
    let two = bind_ok (byte_at 1 64 one.0.1) (λ (len : ℕ × List ℕ). atom_at len.0 len.1) (a, rest) one.2 in
    let first = byte_sound 1 1 (omega arith) xs one.0.0 one.0.1 one.1 in
    let second = byte_sound 1 64 (omega arith) one.0.1 two.0.0 two.0.1 two.1 in
    let last = (atom_reads two.0.0).sound two.0.1 a rest two.2 in
    let one_is : one.0.0 ≡ 1 = omega (arith, first.1.least, first.1.most) in
    first.0 ∙ ap (λ (n : ℕ). n ∷ one.0.1) one_is
    ∙ ap (λ (ys : List ℕ). 1 ∷ ys) (second.0 ∙ ap (λ (n : ℕ). n ∷ two.0.1) (sym last.2.can.len_is)
    ∙ ap (λ (ys : List ℕ). length a ∷ ys) (last.1 ∙ ap (λ (ys : List ℕ). ys ++ rest) last.2.is))
    ∙ sym (atom_is a rest)

atom_again : (a rest : List ℕ) → IsAtom a → one_atom_at (atom_bytes a ++ rest) ≡ Ok (a, rest)
unfolding one_atom_at
atom_again a rest h =
    ap (λ (ys : List ℕ). byte_at 1 1 ys >>= λ one. byte_at 1 64 one.1 >>= λ len. atom_at len.0 len.1) (atom_is a rest)
    ∙ ap (λ (x : Read ℕ). x >>= λ len. atom_at len.0 len.1) (byte_again 1 64 (length a) (a ++ rest) h.some h.short)
    ∙ (atom_reads (length a)).again a a rest (record { can = record { len_is = refl; text = h.text }; is = refl })

pub atom_exact : Exact IsAtom atom_bytes one_atom_at
atom_exact = record { sound = atom_sound; again = atom_again }
