-- Atoms, runs and sides: what is written is read, and what is read is what is written of its value.
use Rattle.std.proofs.Common.{◌≡◌, ◌<◌, ◌≤◌, ◌-◌, ◌+◌, ℕ, zero, suc, true, cond, ltb, leb}
use Rattle.std.proofs.Common.{List, [], ◌∷◌, ◌++◌, length, take, codes, Option, Some, None, slice_set, refl, sym, ap}
use Rattle.std.proofs.Common.{subst, ◌∙◌, append_assoc, append-nil, add-one, length-append, arith, All}
use Rattle.std.specs.List.{AllByRecursion, concat, flat_map}
use Rattle.std.specs.Option.{option_and_then}
use Rattle.std.proofs.Math.Seq.{take-suc-set}
use Rattle.std.proofs.lemmas.Bool.{and_parts, and_from, le-leb, lt-ltb, leb-true, ltb-true}
use Rattle.std.proofs.lemmas.List.{take_all}
use Rattle.std.proofs.lemmas.Option.{none-some, some_pair_parts, cond_some}
use Rattle.std.proofs.lemmas.List.Elements.{All-nil, All-cons, All-head, All-tail}
use Rattle.td_base.specs.Atom.{IsAtom}
use Rattle.td_base.specs.Run.{IsRun}
use Rattle.td_base.specs.declared.bit.Bit.{Bit}
use Rattle.td_base.specs.declared.bit.Bit.TheVariants.{Left, Right}
use Rattle.td_base.specs.declared.atom.TheConstants.{MAX_ATOM_LEN}
use Rattle.td_base.specs.declared.run.TheConstants.{MAX_RUN_LEN}
use Rattle.td_report.specs.Parts.{spaced_quoted}
use Rattle.td_script.specs.Spelling.{spaced_bit}
use Rattle.td_script.specs.Texts.{escaped}
use Rattle.td_reader.specs.Arguments.{bit_at, atom_at, atoms_upto, is_atom_len, is_run, run_at, spaced_atom_at}
use Rattle.td_reader.specs.Arguments.{text_at}
use Rattle.td_reader.specs.Reading.{Reading, after, or_else, ◌>>=◌}
use Rattle.td_reader.proofs.Cursors.{after_back}
use Rattle.td_reader.proofs.Readings.{IsRead, bind_back, choose_back}
use Rattle.td_reader.proofs.Texts.{text_at_there, text_at_back}

-- atoms that were read before what is read from here on
abbrev pub behind_atoms : List (List ℕ) → Reading (List (List ℕ)) → Reading (List (List ℕ))
behind_atoms front (Some read) = Some (front ++ read.0, read.1)
behind_atoms front None = None

behind_both : (front back : List (List ℕ)) (o : Reading (List (List ℕ)))
    → behind_atoms front (behind_atoms back o) ≡ behind_atoms (front ++ back) o
behind_both front back None = refl
behind_both front back (Some read) = ap (λ (t : List (List ℕ)). Some (t, read.1))
    (sym (append_assoc front back read.0))

-- ---- one step

pub atoms_stop : (n : ℕ) (bytes : List ℕ) → after (codes " \"") bytes ≡ None → atoms_upto n bytes ≡ Some ([], bytes)
unfolding atoms_upto
atoms_stop zero bytes e = refl
atoms_stop (suc n) bytes e =
    ap (λ (o : Option (List ℕ)). or_else o (λ inner. atom_at inner >>= (λ atom. atoms_upto n atom.1 >>= (λ atoms. Some
    (atom.0 ∷ atoms.0, atoms.1)))) (Some ([], bytes))) e

pub atoms_fail : (n : ℕ) (bytes inner : List ℕ) → after (codes " \"") bytes ≡ Some inner → atom_at inner ≡ None
    → atoms_upto (suc n) bytes ≡ None
unfolding atoms_upto
atoms_fail n bytes inner e none =
    ap (λ (o : Option (List ℕ)). or_else o (λ inner. atom_at inner >>= (λ atom. atoms_upto n atom.1 >>= (λ atoms. Some
    (atom.0 ∷ atoms.0, atoms.1)))) (Some ([], bytes))) e
    ∙ ap (option_and_then (λ atom. atoms_upto n atom.1 >>= (λ atoms. Some (atom.0 ∷ atoms.0, atoms.1)))) none

onto_is : (atom : List ℕ) (o : Reading (List (List ℕ))) → (o >>= (λ atoms. Some
    (atom ∷ atoms.0, atoms.1))) ≡ behind_atoms (atom ∷ []) o
onto_is atom None = refl
onto_is atom (Some read) = refl

pub atoms_more : (n : ℕ) (bytes inner atom rest : List ℕ) → after (codes " \"") bytes ≡ Some inner
    → atom_at inner ≡ Some (atom, rest)
    → atoms_upto (suc n) bytes ≡ behind_atoms (atom ∷ []) (atoms_upto n rest)
unfolding atoms_upto
atoms_more n bytes inner atom rest e is =
    ap (λ (o : Option (List ℕ)). or_else o (λ inner. atom_at inner >>= (λ atom. atoms_upto n atom.1 >>= (λ atoms. Some
    (atom.0 ∷ atoms.0, atoms.1)))) (Some ([], bytes))) e
    ∙ ap (option_and_then (λ atom. atoms_upto n atom.1 >>= (λ atoms. Some (atom.0 ∷ atoms.0, atoms.1)))) is
    ∙ onto_is atom (atoms_upto n rest)

-- ---- the loop

pub stopped : (most len : ℕ) (front : List (List ℕ)) (bytes rest : List ℕ) → after (codes " \"") rest ≡ None
    → atoms_upto most bytes ≡ behind_atoms front (atoms_upto (most - len) rest) → atoms_upto most bytes ≡ Some
    (front, rest)
stopped most len front bytes rest none e =
    e ∙ ap (behind_atoms front) (atoms_stop (most - len) rest none) ∙ ap (λ (t : List (List ℕ)). Some (t, rest))
    (append-nil front)

pub failed : (most len : ℕ) (front : List (List ℕ)) (bytes rest inner : List ℕ) → len < most → after
    (codes " \"") rest ≡ Some inner
    → atom_at inner ≡ None → atoms_upto most bytes ≡ behind_atoms front (atoms_upto (most - len) rest)
    → atoms_upto most bytes ≡ None
failed most len front bytes rest inner small is none e =
    let more : most - len ≡ suc (most - (len + 1)) = omega arith in
    e ∙ ap (λ (n : ℕ). behind_atoms front (atoms_upto n rest)) more ∙ ap (behind_atoms front)
    (atoms_fail (most - (len + 1)) rest inner is none)

pub stepped : (most len : ℕ) (atoms : List (List ℕ)) (bytes rest inner next behind : List ℕ) → len < most
    → len < length atoms
    → after (codes " \"") rest ≡ Some inner → atom_at inner ≡ Some (next, behind)
    → atoms_upto most bytes ≡ behind_atoms (take len atoms) (atoms_upto (most - len) rest)
    → atoms_upto most bytes ≡ behind_atoms (take (len + 1) (slice_set atoms len next))
    (atoms_upto (most - (len + 1)) behind)
stepped most len atoms bytes rest inner next behind small inside is read e =
    let more : most - len ≡ suc (most - (len + 1)) = omega arith in
    let front : take (len + 1) (slice_set atoms len next) ≡ take len atoms ++ next ∷ [] = rw add-one
    (take-suc-set atoms len next inside) in
    e ∙ ap (λ (n : ℕ). behind_atoms (take len atoms) (atoms_upto n rest)) more
    ∙ ap (behind_atoms (take len atoms)) (atoms_more (most - (len + 1)) rest inner next behind is read)
    ∙ behind_both (take len atoms) (next ∷ []) (atoms_upto (most - (len + 1)) behind)
    ∙ ap (λ (t : List (List ℕ)). behind_atoms t (atoms_upto (most - (len + 1)) behind)) (sym front)

none_upto : (bytes : List ℕ) → atoms_upto 0 bytes ≡ Some ([], bytes)
unfolding atoms_upto
none_upto bytes = refl

pub full : (most len : ℕ) (atoms : List (List ℕ)) (bytes rest : List ℕ) → most ≤ len → length atoms ≡ most
    → atoms_upto most bytes ≡ behind_atoms (take len atoms) (atoms_upto (most - len) rest)
    → atoms_upto most bytes ≡ Some (take most atoms, rest)
full most len atoms bytes rest all size e =
    let none : most - len ≡ 0 = omega arith in
    let whole : take len atoms ≡ take most atoms = take_all len atoms (omega arith) ∙ sym
    (take_all most atoms (omega arith)) in
    e ∙ (λ i. behind_atoms (whole i) (atoms_upto (none i) rest)) ∙ ap (behind_atoms (take most atoms))
    (none_upto rest)
    ∙ ap (λ (t : List (List ℕ)). Some (t, rest)) (append-nil (take most atoms))

-- without a first atom there is no run
pub no_first : (bytes : List ℕ) → spaced_atom_at bytes ≡ None → run_at bytes ≡ None
unfolding run_at spaced_atom_at
no_first bytes none = at_quote (after (codes " \"") bytes) refl none
  where
    at_quote : (o : Option (List ℕ)) → after (codes " \"") bytes ≡ o → (o >>= atom_at) ≡ None
        → (atoms_upto MAX_RUN_LEN bytes >>= (λ atoms. cond {A = Reading (List (List ℕ))} (is_run atoms.0)
        (Some atoms) None)) ≡ None
    at_quote None e none = ap (option_and_then (λ atoms. cond {A = Reading (List (List ℕ))} (is_run atoms.0)
        (Some atoms) None)) (atoms_stop MAX_RUN_LEN bytes e)
    at_quote (Some inner) e none = ap (option_and_then (λ atoms. cond {A = Reading (List (List ℕ))} (is_run atoms.0)
        (Some atoms) None)) (atoms_fail 63 bytes inner e none)

-- ---- what is written is read

pub atom_there : (atom rest : List ℕ) → IsAtom atom → atom_at (flat_map escaped atom ++ 34 ∷ rest) ≡ Some (atom, rest)
unfolding atom_at
atom_there atom rest h =
    let text : text_at (flat_map escaped atom ++ 34 ∷ rest) ≡ Some (atom, rest) = text_at_there atom rest h.text in
    let fits : is_atom_len (length atom) ≡ true =
    and_from (ltb 0 (length atom)) (leb (length atom) MAX_ATOM_LEN) (lt-ltb 0 (length atom) h.some)
    (le-leb (length atom) MAX_ATOM_LEN h.short) in
    rw (text, fits) refl

pub spaced_atom_there : (atom rest : List ℕ) → IsAtom atom → spaced_atom_at (spaced_quoted atom ++ rest) ≡ Some
    (atom, rest)
unfolding spaced_atom_at
spaced_atom_there atom rest h = ap atom_at (append_assoc (flat_map escaped atom) (34 ∷ []) rest)
    ∙ atom_there atom rest h

pub atoms_there : (most : ℕ) (atoms : List (List ℕ)) (rest : List ℕ) → length atoms ≤ most
    → AllByRecursion IsAtom atoms
    → after (codes " \"") rest ≡ None → atoms_upto most (flat_map spaced_quoted atoms ++ rest) ≡ Some (atoms, rest)
atoms_there most [] rest few h none = atoms_stop most rest none
atoms_there zero (atom ∷ atoms) rest few h none = absurd (omega arith)
atoms_there (suc most) (atom ∷ atoms) rest few h none =
    let behind : List ℕ = flat_map spaced_quoted atoms ++ rest in
    ap (atoms_upto (suc most)) (append_assoc (spaced_quoted atom) (flat_map spaced_quoted atoms) rest)
    ∙ atoms_more most (spaced_quoted atom ++ behind) ((flat_map escaped atom ++ 34 ∷ []) ++ behind) atom behind refl
    (ap atom_at (append_assoc (flat_map escaped atom) (34 ∷ []) behind) ∙ atom_there atom behind h.0)
    ∙ ap (behind_atoms (atom ∷ [])) (atoms_there most atoms rest (omega arith) h.1 none)

each_atom : (atoms : List (List ℕ)) → All IsAtom atoms → AllByRecursion IsAtom atoms
each_atom [] h = tt
each_atom (atom ∷ atoms) h = (All-head IsAtom atom atoms h, each_atom atoms (All-tail IsAtom atom atoms h))

-- each atom has a byte
few_atoms : (atoms : List (List ℕ)) → AllByRecursion IsAtom atoms → length atoms ≤ length (concat atoms)
few_atoms [] h = omega arith
few_atoms (atom ∷ atoms) h = omega (arith, h.0.some, few_atoms atoms h.1, length-append atom (concat atoms))

pub run_there : (atoms : List (List ℕ)) (rest : List ℕ) → IsRun atoms → after (codes " \"") rest ≡ None
    → run_at (flat_map spaced_quoted atoms ++ rest) ≡ Some (atoms, rest)
unfolding run_at
run_there atoms rest h none =
    let each : AllByRecursion IsAtom atoms = each_atom atoms h.each in
    let few : length atoms ≤ MAX_RUN_LEN = omega (arith, few_atoms atoms each, h.short) in
    let read : atoms_upto MAX_RUN_LEN (flat_map spaced_quoted atoms ++ rest) ≡ Some
    (atoms, rest) = atoms_there MAX_RUN_LEN atoms rest few each none in
    let fits : is_run atoms ≡ true =
    and_from (ltb 0 (length atoms)) (leb (length (concat atoms)) MAX_RUN_LEN) (lt-ltb 0 (length atoms) h.some)
    (le-leb (length (concat atoms)) MAX_RUN_LEN h.short) in
    rw (read, fits) refl

pub bit_there : (bit : Bit) (rest : List ℕ) → bit_at (spaced_bit bit ++ rest) ≡ Some (bit, rest)
unfolding bit_at
bit_there Left rest = refl
bit_there Right rest = refl

-- ---- what is read is what is written

pub atom_back : (bytes atom rest : List ℕ) → atom_at bytes ≡ Some (atom, rest)
    → IsAtom atom × (bytes ≡ flat_map escaped atom ++ 34 ∷ rest)
unfolding atom_at
atom_back bytes atom rest e =
    bind_back e (λ (text : List ℕ × List ℕ) is_text e.
    let got = cond_some (is_atom_len (length text.0)) text (atom, rest) e in
    let back = text_at_back bytes text.0 text.1 is_text in
    let parts = and_parts (ltb 0 (length text.0)) (leb (length text.0) MAX_ATOM_LEN) got.0 in
    subst (λ (x : List ℕ × List ℕ). IsAtom x.0 × (bytes ≡ flat_map escaped x.0 ++ 34 ∷ x.1)) got.1 (
      record {
        some = ltb-true 0 (length text.0) parts.0;
        short = leb-true
            (length text.0) MAX_ATOM_LEN parts.1;
        text = back.fits;
      },
      back.whole,
    ))

quoted_whole : (bytes inner atom rest : List ℕ) → bytes ≡ 32 ∷ 34 ∷ inner → inner ≡ flat_map escaped atom ++ 34 ∷ rest
    → bytes ≡ spaced_quoted atom ++ rest
quoted_whole bytes inner atom rest e f =
    e ∙ ap (λ (t : List ℕ). 32 ∷ 34 ∷ t) (f ∙ sym (append_assoc (flat_map escaped atom) (34 ∷ []) rest))

pub spaced_atom_back : (bytes atom rest : List ℕ) → spaced_atom_at bytes ≡ Some (atom, rest)
    → IsRead spaced_quoted IsAtom bytes atom rest
unfolding spaced_atom_at
spaced_atom_back bytes atom rest e =
    bind_back e (λ (inner : List ℕ) is_quote e.
    let back = atom_back inner atom rest e in
    record {
      fits = back.0;
      whole = quoted_whole bytes inner atom rest
          (after_back (codes " \"") bytes inner is_quote) back.1;
    })

pub record AreRead (bytes : List ℕ) (atoms : List (List ℕ)) (rest : List ℕ) : Type 0 where
  pub each : AllByRecursion IsAtom atoms
  pub whole : bytes ≡ flat_map spaced_quoted atoms ++ rest

pub atoms_back : (most : ℕ) (bytes : List ℕ) (atoms : List (List ℕ)) (rest : List ℕ) → atoms_upto most bytes ≡ Some
    (atoms, rest)
    → AreRead bytes atoms rest
unfolding atoms_upto
atoms_back zero bytes atoms rest e =
    let same = some_pair_parts [] atoms bytes rest e in
    subst (λ (xs : List (List ℕ)). AreRead bytes xs rest) same.0 (record { each = tt; whole = same.1 })
atoms_back (suc most) bytes atoms rest e =
    choose_back (codes " \"") e
    (λ inner whole e. bind_back e (λ (atom : List ℕ × List ℕ) is_atom e. bind_back e
    (λ (others : List (List ℕ) × List ℕ) are_others e.
    let back = atom_back inner atom.0 atom.1 is_atom in
    let more : AreRead atom.1 others.0 others.1 = atoms_back most atom.1 others.0 others.1 are_others in
    let same = some_pair_parts (atom.0 ∷ others.0) atoms others.1 rest e in
    subst (λ (xs : List (List ℕ)). AreRead bytes xs rest) same.0
    (subst (λ (r : List ℕ). AreRead bytes (atom.0 ∷ others.0) r) same.1 (record {
      each = (back.0, more.each);
      whole = quoted_whole bytes inner atom.0 atom.1 whole back.1 ∙ ap
          (λ (t : List ℕ). spaced_quoted atom.0 ++ t) more.whole
          ∙ sym (append_assoc (spaced_quoted atom.0) (flat_map spaced_quoted others.0) others.1);
    })))))
    (λ e.
    let same = some_pair_parts [] atoms bytes rest e in
    subst (λ (xs : List (List ℕ)). AreRead bytes xs rest) same.0 (record { each = tt; whole = same.1 }))

all_atoms : (atoms : List (List ℕ)) → AllByRecursion IsAtom atoms → All IsAtom atoms
all_atoms [] h = All-nil IsAtom
all_atoms (atom ∷ atoms) h = All-cons IsAtom atom atoms h.0 (all_atoms atoms h.1)

abbrev pub atoms_written : List (List ℕ) → List ℕ
atoms_written atoms = flat_map spaced_quoted atoms

pub run_back : (bytes : List ℕ) (atoms : List (List ℕ)) (rest : List ℕ) → run_at bytes ≡ Some (atoms, rest)
    → IsRead atoms_written IsRun bytes atoms rest
unfolding run_at
run_back bytes atoms rest e =
    bind_back e (λ (read : List (List ℕ) × List ℕ) are_read e.
    let got = cond_some (is_run read.0) read (atoms, rest) e in
    let back = atoms_back MAX_RUN_LEN bytes read.0 read.1 are_read in
    let parts = and_parts (ltb 0 (length read.0)) (leb (length (concat read.0)) MAX_RUN_LEN) got.0 in
    subst (λ (x : List (List ℕ) × List ℕ). IsRead atoms_written IsRun bytes x.0 x.1) got.1 (record {
      fits = record {
        some = ltb-true 0 (length read.0) parts.0;
        short = leb-true
            (length (concat read.0)) MAX_RUN_LEN parts.1;
        each = all_atoms read.0 back.each;
      };
      whole = back.whole;
    }))

pub bit_back : (bytes : List ℕ) (bit : Bit) (rest : List ℕ) → bit_at bytes ≡ Some (bit, rest)
    → bytes ≡ spaced_bit bit ++ rest
unfolding bit_at
bit_back bytes bit rest e =
    choose_back (codes " left") e (λ behind whole e.
    let same = some_pair_parts Left bit behind rest e in whole ∙ (λ i. spaced_bit (same.0 i) ++ same.1 i))
    (λ e. choose_back (codes " right") e (λ behind whole e.
    let same = some_pair_parts Right bit behind rest e in whole ∙ (λ i. spaced_bit (same.0 i) ++ same.1 i))
    (λ e. absurd (none-some (bit, rest) e)))
