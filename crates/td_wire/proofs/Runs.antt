-- Atoms of a stated length, lengths of atoms, and runs.
use Rattle.std.proofs.Common.{◌≡◌, ℕ, zero, suc, ◌+◌, ◌-◌, ◌<◌, ◌≤◌, List, [], ◌∷◌, ◌++◌, length, map, take, sum, Ok}
use Rattle.std.proofs.Common.{Err, inl, inr, refl, sym, ap, subst, ◌∙◌, arith}
use Rattle.std.specs.List.{concat, AllByRecursion}
use Rattle.std.specs.Str.{IsUtf8}
use Rattle.std.proofs.lemmas.List.{append-nil, length-map, take_at}
use Rattle.std.proofs.lemmas.List.Sums.{sum_by-cons}
use Rattle.std.proofs.lemmas.List.Elements.{All-from_recursion, recursion_from_All}
use Rattle.td_base.specs.Atom.{IsAtom}
use Rattle.td_base.specs.Run.{IsRun}
use Rattle.td_wire.specs.declared.format.Format.{Format}
use Rattle.td_wire.specs.declared.format.Format.TheVariants.{One, Two}
use Rattle.td_wire.specs.Spelling.{run_bytes as run}
use Rattle.td_wire.specs.Reading.{Read, ◌>>=◌, byte_at, text_at, atom_at, lengths_at, atoms_at, run_at}
use Rattle.td_wire.proofs.Exact.{ok, ok_is, ok_differs, Begins, Stops, IsFault, Reads, Field, renamed, made, chain}
use Rattle.td_wire.proofs.Exact.{nothing, bind_ok, bind_err}
use Rattle.td_wire.proofs.Bytes.{InRange, one_byte, byte_reads}
use Rattle.td_wire.proofs.Texts.{Text, text_reads}
use Rattle.td_base.proofs.RunPieces.{length_concat}

-- ---- atoms

pub record AtomOf (len : ℕ) (a : List ℕ) : Type 0 where
  pub len_is : length a ≡ len
  pub text : IsUtf8 a

abbrev pub itself : List ℕ → List ℕ
itself a = a

abbrev taking : ℕ → List ℕ → ℕ × List ℕ → Read (List ℕ)
taking len xs t = Ok (take len xs, t.1)

atom_sound : (len : ℕ) (xs a rest : List ℕ) → (text_at len len xs >>= taking len xs) ≡ Ok (a, rest)
    → (front : List ℕ) × (xs ≡ front ++ rest) × Field (AtomOf len) itself a front
atom_sound len xs a rest e =
    let step = bind_ok (text_at len len xs) (taking len xs) (a, rest) e in
    let t = (text_reads len len (omega arith)).sound xs step.0.0 step.0.1 step.1 in
    let both = ok_is (take len xs, step.0.1) (a, rest) step.2 in
    let front : take len xs ≡ t.0 = ap (take len) t.1 ∙ take_at t.0 step.0.1 len t.2.len_is in
    let value : t.0 ≡ a = sym front ∙ ap (λ (x : List ℕ × List ℕ). x.0) both in (
      t.0,
      t.1 ∙ ap (λ (x : List ℕ × List ℕ). t.0 ++ x.1) both,
      record {
        can = record { len_is = ap length (sym value) ∙ t.2.len_is; text = subst IsUtf8 value t.2.text };
        is =
            value;
      },
    )

atom_again : (len : ℕ) (a front rest : List ℕ) → Field (AtomOf len) itself a front
    → (text_at len len (front ++ rest) >>= taking len (front ++ rest)) ≡ Ok (a, rest)
atom_again len a front rest f =
    let long : length front ≡ len = ap length f.is ∙ f.can.len_is in
    let read = (text_reads len len (omega arith)).again len front rest
    (record { value = refl; len_is = long; text = subst IsUtf8 (sym f.is) f.can.text }) in
    ap (λ (t : Read ℕ). t >>= taking len (front ++ rest)) read
    ∙ ap (λ (x : List ℕ). ok (x, rest)) (take_at front rest len long ∙ f.is)

to_begins : (len : ℕ) (xs : List ℕ) → Begins (Text len) xs → Begins (Field (AtomOf len) itself) xs
to_begins len xs b = (xs ++ b.1, b.1, record { can = record { len_is = b.2.len_is; text = b.2.text }; is = refl })

from_begins : (len : ℕ) (xs : List ℕ) → Begins (Field (AtomOf len) itself) xs → Begins (Text len) xs
from_begins len xs b = (
  len,
  b.1,
  record {
    value = refl;
    len_is = ap length b.2.is
        ∙ b.2.can.len_is;
    text = subst IsUtf8 (sym b.2.is) b.2.can.text;
  },
)

atom_stops : (len : ℕ) (good bad : List ℕ) → Stops (Text len) good bad → Stops (Field (AtomOf len) itself) good bad
atom_stops len good [] s = tt
atom_stops len good (b ∷ bad) s = λ begins. s (from_begins len (good ++ b ∷ []) begins)

atom_fault : (len : ℕ) (xs : List ℕ) (left : ℕ) → (text_at len len xs >>= taking len xs) ≡ Err left
    → IsFault (Field (AtomOf len) itself) xs left
atom_fault len xs left e = elim (bind_err (text_at len len xs) (taking len xs) left e) [
  | inl first ↦
      let f = (text_reads len len (omega arith)).fault xs left first in
      record {
        good = f.good;
        bad = f.bad;
        parts = f.parts;
        left_is = f.left_is;
        begins =
            to_begins len f.good f.begins;
        stops = atom_stops len f.good f.bad f.stops;
      }
  | inr second ↦ absurd (ok_differs (take len xs, second.0.1) left second.2)
]

pub atom_reads : (len : ℕ) → Reads (Field (AtomOf len) itself) (atom_at len)
unfolding atom_at
atom_reads len = record {
  some = to_begins len [] (text_reads len len (omega arith)).some;
  sound = atom_sound len;
  again = atom_again len;
  fault = atom_fault len;
}

-- ---- lengths

abbrev pub head_of : List ℕ → ℕ
head_of [] = 0
head_of (n ∷ ns) = n

abbrev pub tail_of : List ℕ → List ℕ
tail_of [] = []
tail_of (n ∷ ns) = ns

abbrev LengthsFrom : ℕ → ℕ → List ℕ → Type 0
LengthsFrom zero room ls = [] ≡ ls
LengthsFrom (suc behind) room ls = InRange 1 (room - behind) (head_of ls)
    × (LengthsFrom behind (room - head_of ls) (tail_of ls) × (head_of ls ∷ tail_of ls ≡ ls))

pub lengths_reads : (k room : ℕ) → k ≤ room → Reads (Field (LengthsFrom k room) itself) (lengths_at k room)
unfolding lengths_at
lengths_reads zero room h = renamed (λ ls. [] ≡ ls) (LengthsFrom zero room) (λ _. []) itself _ (λ ls e. e) (λ ls e. e)
    (λ ls e. e) (nothing [])
lengths_reads (suc behind) room h = renamed _ (LengthsFrom (suc behind) room) _ itself _ (λ ls c. c) (λ ls c. c)
    (λ ls c. c.1.1)
    (chain (InRange 1 (room - behind)) one_byte
    (λ l ls. LengthsFrom behind (room - l) (tail_of ls) × (l ∷ tail_of ls ≡ ls)) (λ l ls. tail_of ls) head_of
    (byte_at 1 (room - behind)) _
    (λ l ls z c. ap head_of (sym c.1)) (byte_reads 1 (room - behind) (omega arith)) (λ l z.
    made (LengthsFrom behind (room - l)) itself (λ ls. l ∷ ls) tail_of (lengths_at behind (room - l)) (λ ls. refl)
    (lengths_reads behind (room - l) (omega (arith, z.most, h)))))

pub record Lengths (k room : ℕ) (ls : List ℕ) : Type 0 where
  pub count : length ls ≡ k
  pub each : AllByRecursion (λ l. 1 ≤ l) ls
  pub together : sum ls ≤ room

sum_cons : (l : ℕ) (ls : List ℕ) → sum (l ∷ ls) ≡ l + sum ls
sum_cons l ls = sum_by-cons (λ x. x) l ls

pub to_lengths : (k room : ℕ) (ls : List ℕ) → LengthsFrom k room ls → Lengths k room ls
to_lengths zero room ls e = subst (Lengths zero room) e (record { count = refl; each = tt; together = omega arith })
to_lengths (suc behind) room [] c = absurd (differ c.1.1) where
  differ : ◌≡◌ {A = List ℕ} (0 ∷ []) [] → ⊥
  differ e = cc
to_lengths (suc behind) room (l ∷ ls) c =
    let rest = to_lengths behind (room - l) ls c.1.0 in
    record {
      count = ap suc rest.count;
      each = (c.0.least, rest.each);
      together =
          omega (arith, rest.together, c.0.most, c.0.least, sum_cons l ls);
    }

-- lengths of 1 at least
sum_some : (ls : List ℕ) → AllByRecursion (λ l. 1 ≤ l) ls → length ls ≤ sum ls
sum_some [] h = omega arith
sum_some (l ∷ ls) h = let rest = sum_some ls h.1 in let first = h.0 in omega (arith, rest, first, sum_cons l ls)

from_lengths : (k room : ℕ) (ls : List ℕ) → Lengths k room ls → LengthsFrom k room ls
from_lengths zero room [] c = refl
from_lengths zero room (l ∷ ls) c = absurd (omega (arith, c.count))
from_lengths (suc behind) room [] c = absurd (omega (arith, c.count))
from_lengths (suc behind) room (l ∷ ls) c =
    let least = c.each.0 in
    let rest = sum_some ls c.each.1 in
    let count : length ls ≡ behind = omega (arith, c.count) in (
      record { least = least; most = omega (arith, rest, c.together, count, sum_cons l ls) },
      (
        from_lengths behind (room - l) ls (record
            { count = count; each = c.each.1; together = omega (arith, c.together, sum_cons l ls) }),
        refl,
      ),
    )

-- ---- the atoms of a run

abbrev first_of : List (List ℕ) → List ℕ
first_of [] = []
first_of (a ∷ atoms) = a

abbrev rest_of : List (List ℕ) → List (List ℕ)
rest_of [] = []
rest_of (a ∷ atoms) = atoms

abbrev pub AtomsFrom : List ℕ → List (List ℕ) → Type 0
AtomsFrom [] atoms = [] ≡ atoms
AtomsFrom (l ∷ ls) atoms = AtomOf l (first_of atoms)
    × (AtomsFrom ls (rest_of atoms) × (first_of atoms ∷ rest_of atoms ≡ atoms))

pub atoms_reads : (ls : List ℕ) → Reads (Field (AtomsFrom ls) concat) (atoms_at ls)
unfolding atoms_at
atoms_reads [] = renamed (λ atoms. [] ≡ atoms) (AtomsFrom []) (λ _. []) concat _ (λ atoms e. e) (λ atoms e. e)
    (λ atoms e. ap concat e) (nothing [])
atoms_reads (l ∷ ls) = renamed _ (AtomsFrom (l ∷ ls)) _ concat _ (λ atoms c. c) (λ atoms c. c)
    (λ atoms c. ap concat c.1.1)
    (chain (AtomOf l) itself (λ a atoms. AtomsFrom ls (rest_of atoms) × (a ∷ rest_of atoms ≡ atoms))
    (λ a atoms. concat (rest_of atoms)) first_of (atom_at l) _
    (λ a atoms z c. ap first_of (sym c.1)) (atom_reads l) (λ a z.
    made (AtomsFrom ls) concat (λ atoms. a ∷ atoms) rest_of (atoms_at ls) (λ atoms. refl) (atoms_reads ls)))

pub to_atoms : (ls : List ℕ) (atoms : List (List ℕ)) → AtomsFrom ls atoms
    → (map length atoms ≡ ls) × AllByRecursion IsUtf8 atoms
to_atoms [] atoms e = subst (λ (bs : List (List ℕ)). (map length bs ≡ []) × AllByRecursion IsUtf8 bs) e (refl, tt)
to_atoms (l ∷ ls) [] c = absurd (differ c.1.1) where
  differ : ◌≡◌ {A = List (List ℕ)} ([] ∷ []) [] → ⊥
  differ e = cc
to_atoms (l ∷ ls) (a ∷ atoms) c =
    let rest = to_atoms ls atoms c.1.0 in
    let first : length a ≡ l = c.0.len_is in
    (rw (first, rest.0) refl, (c.0.text, rest.1))

pub from_atoms : (atoms : List (List ℕ)) → AllByRecursion IsUtf8 atoms → AtomsFrom (map length atoms) atoms
from_atoms [] h = refl
from_atoms (a ∷ atoms) h = (record { len_is = refl; text = h.0 }, (from_atoms atoms h.1, refl))

-- ---- runs

abbrev pub RunIn : Format → List (List ℕ) → Type 0
RunIn One atoms = IsRun atoms × (length atoms ≡ 1)
RunIn Two atoms = IsRun atoms

-- the atoms of a run have some bytes each, and as many together as a run may have
abbrev texts : List (List ℕ) → Type 0
texts atoms = AllByRecursion IsUtf8 atoms

atoms_are : (atoms : List (List ℕ)) → AllByRecursion (λ l. 1 ≤ l) (map length atoms) → sum (map length atoms) ≤ 64
    → texts atoms → AllByRecursion IsAtom atoms
atoms_are [] some short text = tt
atoms_are (a ∷ atoms) some short text = (
  record { some = some.0; short = omega (arith, short, sum_cons (length a) (map length atoms)); text = text.0 },
  atoms_are atoms some.1 (omega (arith, short, sum_cons (length a) (map length atoms))) text.1,
)

texts_are : (atoms : List (List ℕ)) → AllByRecursion IsAtom atoms
    → texts atoms × AllByRecursion (λ l. 1 ≤ l) (map length atoms)
texts_are [] h = (tt, tt)
texts_are (a ∷ atoms) h = let rest = texts_are atoms h.1 in ((h.0.text, rest.0), (h.0.some, rest.1))

to_run : (atoms : List (List ℕ)) → InRange 1 64 (length atoms)
    × (LengthsFrom (length atoms) 64 (map length atoms) × AtomsFrom (map length atoms) atoms) → IsRun atoms
to_run atoms h =
    let lengths = to_lengths (length atoms) 64 (map length atoms) h.1.0 in
    let read = to_atoms (map length atoms) atoms h.1.1 in
    record {
      some = h.0.least;
      short = omega (arith, length_concat atoms, lengths.together);
      each = All-from_recursion IsAtom atoms (atoms_are atoms lengths.each lengths.together read.1);
    }

pub from_run : (atoms : List (List ℕ)) → IsRun atoms
    → InRange 1 64 (length atoms) × (LengthsFrom (length atoms) 64 (map length atoms) × AtomsFrom
    (map length atoms) atoms)
from_run atoms r =
    let parts = texts_are atoms (recursion_from_All IsAtom atoms r.each) in
    let together : sum (map length atoms) ≤ 64 = omega (arith, length_concat atoms, r.short) in
    let some = sum_some (map length atoms) parts.1 in
    let count = length-map atoms length in (
      record { least = r.some; most = omega (arith, some, together, count) },
      (
        from_lengths (length atoms) 64 (map length atoms)
            (record { count = count; each = parts.1; together = together }),
        from_atoms atoms parts.0,
      ),
    )

-- the length and the bytes of one atom
one_spelled : (atoms : List (List ℕ)) → length atoms ≡ 1 → length (first_of atoms) ∷ first_of atoms ≡ run One atoms
one_spelled [] e = absurd (omega (arith, e))
one_spelled (a ∷ []) e = ap (λ (bytes : List ℕ). length a ∷ bytes) (sym (append-nil a))
one_spelled (a ∷ b ∷ atoms) e = absurd (omega (arith, e))

to_one : (atoms : List (List ℕ)) → InRange 1 64 (length (first_of atoms))
    × (AtomOf (length (first_of atoms)) (first_of atoms) × (first_of atoms ∷ [] ≡ atoms)) → RunIn One atoms
to_one atoms h = subst (RunIn One) h.1.1 (
  record {
    some = omega arith;
    short = rw (append-nil (first_of atoms)) h.0.most;
    each = All-from_recursion IsAtom (first_of atoms ∷ [])
        (record { some = h.0.least; short = h.0.most; text = h.1.0.text }, tt);
  },
  refl,
)

from_one : (atoms : List (List ℕ)) → RunIn One atoms
    → InRange 1 64 (length (first_of atoms))
    × (AtomOf (length (first_of atoms)) (first_of atoms) × (first_of atoms ∷ [] ≡ atoms))
from_one [] r = absurd (omega (arith, r.1))
from_one (a ∷ []) r =
    let atom = (recursion_from_All IsAtom (a ∷ []) r.0.each).0 in
    (record { least = atom.some; most = atom.short }, (record { len_is = refl; text = atom.text }, refl))
from_one (a ∷ b ∷ atoms) r = absurd (omega (arith, r.1))

pub run_reads : (f : Format) → Reads (Field (RunIn f) (run f)) (run_at f)
unfolding run_at
run_reads One = renamed _ (RunIn One) _ (run One) (run_at One) to_one from_one (λ atoms r. one_spelled atoms r.1)
    (chain (InRange 1 64) one_byte (λ len atoms. AtomOf len (first_of atoms) × (first_of atoms ∷ [] ≡ atoms))
    (λ len atoms. first_of atoms) (λ atoms. length (first_of atoms)) (byte_at 1 64) _
    (λ len atoms z c. c.0.len_is) (byte_reads 1 64 (omega arith)) (λ len z.
    made (AtomOf len) itself (λ a. a ∷ []) first_of (atom_at len) (λ a. refl) (atom_reads len)))
run_reads Two = renamed _ (RunIn Two) _ (run Two) (run_at Two) to_run from_run (λ atoms r. refl)
    (chain (InRange 1 64) one_byte (λ count atoms. LengthsFrom count 64 (map length atoms) × AtomsFrom
    (map length atoms) atoms) (λ count atoms. map length atoms ++ concat atoms) length (byte_at 1 64) _
    (λ count atoms z c. sym (length-map atoms length) ∙ (to_lengths count 64 (map length atoms) c.0).count)
    (byte_reads 1 64 (omega arith)) (λ count z.
    chain (LengthsFrom count 64) itself (λ ls atoms. AtomsFrom ls atoms) (λ ls atoms. concat atoms) (map length)
    (lengths_at count 64) _
    (λ ls atoms z c. (to_atoms ls atoms c).0) (lengths_reads count 64 z.most) (λ ls z. atoms_reads ls)))

-- atoms that were read, of lengths that fit, are a run
pub run_from : (ls : List ℕ) (atoms : List (List ℕ)) → AtomsFrom ls atoms → 0 < length ls
    → AllByRecursion (λ l. 1 ≤ l) ls → sum ls ≤ 64 → IsRun atoms
run_from ls atoms read some each together =
    let a = to_atoms ls atoms read in
    let each_is : AllByRecursion (λ l. 1 ≤ l) (map length atoms) = subst (AllByRecursion (λ l. 1 ≤ l)) (sym a.0) each in
    let together_is : sum (map length atoms) ≤ 64 = rw a.0 together in
    record {
      some = omega (arith, ap length a.0, length-map atoms length, some);
      short = omega (arith, length_concat atoms, together_is);
      each = All-from_recursion IsAtom atoms (atoms_are atoms each_is together_is a.1);
    }
