-- The runs in which a text is pasted.
use Rattle.std.proofs.Common.{◌≡◌, ◌<◌, ◌≤◌, ◌+◌, ◌-◌, ◌^◌, ◌++◌, ◌∷◌, ℕ, List, [], Bool, true}
use Rattle.std.proofs.Common.{false, length, map, sum, take, drop, get_or, arith, ap, sym, refl}
use Rattle.std.proofs.Common.{subst, ◌∙◌, length-append, nat_lt, if◌then◌else◌}
use Rattle.std.specs.Prelude.{All}
use Rattle.std.specs.List.{concat, flat_map}
use Rattle.std.proofs.lemmas.List.{append-nil, append_assoc, drop-map, drop_at, drop_more, get_or-map}
use Rattle.std.proofs.lemmas.List.{length-map, take-append-drop, take-map, take_at, take_more}
use Rattle.std.proofs.lemmas.List.Folds.{concat-append}
use Rattle.std.proofs.lemmas.List.Sums.{sum_by-append, sum_by-cons}
use Rattle.std.proofs.lemmas.List.Elements.{All-head, All-tail, All-cons, All-nil, All-append, All-take, All-drop}
use Rattle.std.proofs.lemmas.Bool.{le-ltb, lt-ltb, ltb-true, ltb-false}
use Rattle.td_base.specs.Atom.{IsAtom}
use Rattle.td_base.specs.Run.{IsRun, pieces}
use Rattle.td_base.specs.declared.atom.TheConstants.{MAX_ATOM_LEN}
use Rattle.td_base.specs.declared.run.TheConstants.{MAX_RUN_LEN}
use Rattle.td_base.proofs.RunPieces.{length_concat, piece_bytes, piece_lengths}
use Rattle.td_text.specs.AtomListParts.{IsAtomListParts}
use Rattle.td_text.proofs.AtomListLemmas.{count_pieces, parts_of}
use Rattle.td_text.specs.Runs.{one_run, runs_on, runs_of}

one_is_run : (run : List (List ℕ)) → All IsAtom run → length (concat run) ≤ MAX_RUN_LEN → All IsRun (one_run run)
one_is_run [] each short = All-nil IsRun
one_is_run (atom ∷ atoms) each short =
    All-cons IsRun (atom ∷ atoms) [] (record { some = omega arith; short = short; each = each }) (All-nil IsRun)

with_next : (run : List (List ℕ)) (atom : List ℕ) → length (concat (run ++ atom ∷ []))
    ≡ length (concat run) + length atom
with_next run atom =
    ap length (concat-append run (atom ∷ [])) ∙ length-append (concat run) (concat (atom ∷ []))
    ∙ ap (λ (x : List ℕ). length (concat run) + length x) (append-nil atom)

atom_fits : (atom : List ℕ) → IsAtom atom → length atom ≤ MAX_RUN_LEN
atom_fits atom is = is.short

is_run : (run : List (List ℕ)) (room : ℕ) (atom : List ℕ) → All IsAtom run → length atom ≤ MAX_RUN_LEN
    → length (concat run) + room ≡ MAX_RUN_LEN → nat_lt room (length atom) ≡ true → IsRun run
is_run [] room atom each fits sum late =
    let over : room < length atom = ltb-true room (length atom) late in
    absurd (omega arith)
is_run (a ∷ run) room atom each fits sum late = record { some = omega arith; short = omega arith; each = each }

runs_are_runs_on : (atoms run : List (List ℕ)) (room : ℕ) → All IsAtom run → All IsAtom atoms
    → length (concat run) + room ≡ MAX_RUN_LEN → All IsRun (runs_on run room atoms)
runs_are_runs_on [] run room each others sum = one_is_run run each (omega arith)
runs_are_runs_on (atom ∷ atoms) run room each others sum =
    at (nat_lt room (length atom)) refl
    (runs_are_runs_on atoms (atom ∷ []) (MAX_RUN_LEN - length atom) one rest (omega (arith, alone, fits)))
    (λ (e : nat_lt room (length atom) ≡ false).
    runs_are_runs_on atoms (run ++ atom ∷ []) (room - length atom) (All-append IsAtom run (atom ∷ []) each one) rest
    (longer e))
  where
    is : IsAtom atom
    is = All-head IsAtom atom atoms others

    rest : All IsAtom atoms
    rest = All-tail IsAtom atom atoms others

    one : All IsAtom (atom ∷ [])
    one = All-cons IsAtom atom [] is (All-nil IsAtom)

    fits : length atom ≤ MAX_RUN_LEN
    fits = atom_fits atom is

    alone : length (concat (atom ∷ [])) ≡ length atom
    alone = ap length (append-nil atom)

    longer : nat_lt room (length atom) ≡ false → length (concat (run ++ atom ∷ [])) + (room - length atom) ≡ MAX_RUN_LEN
    longer e =
        let within : length atom ≤ room = ltb-false room (length atom) e in
        let size : length (concat (run ++ atom ∷ [])) ≡ length (concat run) + length atom = with_next run atom in
        omega arith

    at : (b : Bool) → nat_lt room (length atom) ≡ b
        → All IsRun (runs_on (atom ∷ []) (MAX_RUN_LEN - length atom) atoms)
        → (nat_lt room (length atom) ≡ false → All IsRun (runs_on (run ++ atom ∷ []) (room - length atom) atoms))
        → All IsRun (if b then run ∷ runs_on (atom ∷ []) (MAX_RUN_LEN - length atom) atoms
        else runs_on (run ++ atom ∷ []) (room - length atom) atoms)
    at true e new more =
        All-cons IsRun run (runs_on (atom ∷ []) (MAX_RUN_LEN - length atom) atoms)
        (is_run run room atom each fits sum e) new
    at false e new more = more e

pub runs_are_runs : (atoms : List (List ℕ)) → All IsAtom atoms → All IsRun (runs_of atoms)
runs_are_runs atoms each = runs_are_runs_on atoms [] MAX_RUN_LEN (All-nil IsAtom) each refl

abbrev all_of : List (List (List ℕ)) → List (List ℕ)
all_of runs = flat_map (λ (run : List (List ℕ)). run) runs

atoms_of_one : (run : List (List ℕ)) → all_of (one_run run) ≡ run
atoms_of_one [] = refl
atoms_of_one (atom ∷ atoms) = append-nil (atom ∷ atoms)

atoms_on : (atoms run : List (List ℕ)) (room : ℕ) → all_of (runs_on run room atoms) ≡ run ++ atoms
atoms_on [] run room = atoms_of_one run ∙ sym (append-nil run)
atoms_on (atom ∷ atoms) run room =
    at (nat_lt room (length atom)) (atoms_on atoms (atom ∷ []) (MAX_RUN_LEN - length atom))
    (atoms_on atoms (run ++ atom ∷ []) (room - length atom))
  where
    at : (b : Bool) → all_of (runs_on (atom ∷ []) (MAX_RUN_LEN - length atom) atoms) ≡ atom ∷ atoms
        → all_of (runs_on (run ++ atom ∷ []) (room - length atom) atoms) ≡ (run ++ atom ∷ []) ++ atoms
        → all_of (if b then run ∷ runs_on (atom ∷ []) (MAX_RUN_LEN - length atom) atoms
        else runs_on (run ++ atom ∷ []) (room - length atom) atoms) ≡ run ++ atom ∷ atoms
    at true new more = ap (λ (x : List (List ℕ)). run ++ x) new
    at false new more = more ∙ append_assoc run (atom ∷ []) atoms

pub atoms_of_runs : (atoms : List (List ℕ)) → flat_map (λ (run : List (List ℕ)). run) (runs_of atoms) ≡ atoms
atoms_of_runs atoms = atoms_on atoms [] MAX_RUN_LEN

-- the first of them
pub first_is_run : (atoms : List (List ℕ)) (n : ℕ) → All IsAtom atoms
    → runs_of atoms ≡ take n atoms ∷ runs_of (drop n atoms) → IsRun (take n atoms)
first_is_run atoms n each first =
    All-head IsRun (take n atoms) (runs_of (drop n atoms))
    (subst (All IsRun) first (runs_are_runs atoms each))

-- ---- the atoms of the first run, one by one

-- one more atom fits into the run
one_fits : (run : List (List ℕ)) (room : ℕ) (atom : List ℕ) (atoms : List (List ℕ)) → length atom ≤ room
    → runs_on run room (atom ∷ atoms) ≡ runs_on (run ++ atom ∷ []) (room - length atom) atoms
one_fits run room atom atoms fits =
    ap (λ (b : Bool). if b then run ∷ runs_on (atom ∷ []) (MAX_RUN_LEN - length atom) atoms
    else runs_on (run ++ atom ∷ []) (room - length atom) atoms) (le-ltb room (length atom) fits)

-- the next atom begins a run of its own
next_is_late : (run : List (List ℕ)) (room : ℕ) (atom : List ℕ) (atoms : List (List ℕ)) → length atom ≤ MAX_RUN_LEN
    → room < length atom
    → runs_on run room (atom ∷ atoms) ≡ run ∷ runs_of (atom ∷ atoms)
next_is_late run room atom atoms fits over =
    ap (λ (b : Bool). if b then run ∷ runs_on (atom ∷ []) (MAX_RUN_LEN - length atom) atoms
    else runs_on (run ++ atom ∷ []) (room - length atom) atoms) (lt-ltb room (length atom) over)
    ∙ ap (λ (runs : List (List (List ℕ))). run ∷ runs) (sym (one_fits [] MAX_RUN_LEN atom atoms fits))

-- the atom at a place of atoms with these lengths
record IsAtPlace (atoms : List (List ℕ)) (i len : ℕ) (atom : List ℕ) : Type 0 where
  pub size : len ≡ length atom
  pub front : take (i + 1) atoms ≡ take i atoms ++ atom ∷ []
  pub behind : drop i atoms ≡ atom ∷ drop (i + 1) atoms

at_place : (atoms : List (List ℕ)) (lens : List ℕ) (i len : ℕ) → map length atoms ≡ lens → i < length lens → len
    ≡ get_or lens i 0
    → IsAtPlace atoms i len (get_or atoms i [])
at_place atoms lens i len lengths lt read =
    let within : i < length atoms = omega (arith, lt, ap length lengths, length-map atoms length) in
    record {
      size = read ∙ ap (λ (ls : List ℕ). get_or ls i 0) (sym lengths) ∙ get_or-map length atoms i [] 0 within;
      front = take_more atoms i [] within;
      behind = drop_more atoms i [] within;
    }

-- the atom at a place is in the run
pub next_in_run : (atoms : List (List ℕ)) (lens : List ℕ) (i room len : ℕ) → map length atoms ≡ lens → i < length lens
    → len ≡ get_or lens i 0
    → len ≤ room → runs_of atoms ≡ runs_on (take i atoms) room (drop i atoms)
    → runs_of atoms ≡ runs_on (take (i + 1) atoms) (room - len) (drop (i + 1) atoms)
next_in_run atoms lens i room len lengths lt read fits so_far =
    let atom : List ℕ = get_or atoms i [] in
    let at = at_place atoms lens i len lengths lt read in
    so_far ∙ ap (runs_on (take i atoms) room) at.behind
    ∙ one_fits (take i atoms) room atom (drop (i + 1) atoms) (omega (arith, fits, at.size))
    ∙ (λ j. runs_on (sym at.front j) (room - sym at.size j) (drop (i + 1) atoms))

-- the atom at a place is in the next run
pub run_is_full : (atoms : List (List ℕ)) (lens : List ℕ) (i room len : ℕ) → map length atoms ≡ lens → i < length lens
    → len ≡ get_or lens i 0
    → len ≤ MAX_RUN_LEN → room < len → runs_of atoms ≡ runs_on (take i atoms) room (drop i atoms)
    → runs_of atoms ≡ take i atoms ∷ runs_of (drop i atoms)
run_is_full atoms lens i room len lengths lt read fits over so_far =
    let atom : List ℕ = get_or atoms i [] in
    let at = at_place atoms lens i len lengths lt read in
    so_far ∙ ap (runs_on (take i atoms) room) at.behind
    ∙ next_is_late (take i atoms) room atom (drop (i + 1) atoms) (omega (arith, fits, at.size))
    (omega (arith, over, at.size))
    ∙ ap (λ (rest : List (List ℕ)). take i atoms ∷ runs_of rest) (sym at.behind)

-- the bytes of one atom more
pub sum_next : (lens : List ℕ) (i len : ℕ) → i < length lens → len ≡ get_or lens i 0 → sum (take (i + 1) lens)
    ≡ sum (take i lens) + len
sum_next lens i len lt read =
    let all = ap sum (take_more lens i 0 lt) in
    let split = sum_by-append (λ (n : ℕ). n) (take i lens) (get_or lens i 0 ∷ []) in
    let last = sum_by-cons (λ (n : ℕ). n) (get_or lens i 0) [] in
    omega (arith, all, split, last, read)

-- ---- the first run, cut off

pub lengths_short : (lens bytes : List ℕ) → IsAtomListParts lens bytes → All (λ (len : ℕ). len ≤ MAX_ATOM_LEN) lens
lengths_short lens bytes parts = λ i d lt.
    let atoms : List (List ℕ) = pieces lens bytes in
    let within : i < length atoms = omega (arith, lt, count_pieces lens bytes) in
    let size : get_or lens i d ≡ length (get_or atoms i []) =
    ap (λ (ls : List ℕ). get_or ls i d) (sym (piece_lengths lens bytes parts.whole))
    ∙ get_or-map length atoms i [] d within in
    rw size (parts.each i [] within).short

-- so many atoms, which have so many bytes, are the first run
pub record IsFirstRun (lens bytes : List ℕ) (count len : ℕ) : Type 0 where
  pub within : len ≤ length bytes
  pub whole : sum (take count lens) ≡ length (take len bytes)
  pub run : IsRun (pieces (take count lens) (take len bytes))
  pub left : IsAtomListParts (drop count lens) (drop len bytes)
  pub runs : runs_of (pieces lens bytes)
      ≡ pieces (take count lens) (take len bytes) ∷ runs_of (pieces (drop count lens) (drop len bytes))

pub first_run_is : (lens bytes : List ℕ) (count len : ℕ) → IsAtomListParts lens bytes → len ≡ sum (take count lens)
    → ((atoms : List (List ℕ)) → map length atoms ≡ lens → runs_of atoms
    ≡ take count atoms ∷ runs_of (drop count atoms))
    → IsFirstRun lens bytes count len
first_run_is lens bytes count len parts at first =
    let atoms : List (List ℕ) = pieces lens bytes in
    let lengths : map length atoms ≡ lens = piece_lengths lens bytes parts.whole in
    let runs : runs_of atoms ≡ take count atoms ∷ runs_of (drop count atoms) = first atoms lengths in
    let front : List ℕ = concat (take count atoms) in
    let others : List ℕ = concat (drop count atoms) in
    let split : bytes ≡ front ++ others =
    sym (piece_bytes lens bytes parts.whole) ∙ ap concat (sym (take-append-drop count atoms))
    ∙ concat-append (take count atoms) (drop count atoms) in
    let front_lens : take count lens ≡ map length (take count atoms) = ap (take count) (sym lengths)
    ∙ take-map length count atoms in
    let other_lens : drop count lens ≡ map length (drop count atoms) = ap (drop count) (sym lengths)
    ∙ drop-map length count atoms in
    let size : length front ≡ len = length_concat (take count atoms) ∙ ap sum (sym front_lens) ∙ sym at in
    let whole = ap length (take-append-drop count lens) in
    let both = length-append (take count lens) (drop count lens) in
    let one = parts_of (take count atoms) (take count lens) (take len bytes) (All-take IsAtom count atoms parts.each)
    (omega (arith, whole, both, parts.few)) front_lens
    (ap (take len) split ∙ take_at front others len size) in
    let left = parts_of (drop count atoms) (drop count lens) (drop len bytes) (All-drop IsAtom count atoms parts.each)
    (omega (arith, whole, both, parts.few)) other_lens
    (ap (drop len) split ∙ drop_at front others len size) in
    record {
      within = omega (arith, ap length split, length-append front others, size);
      whole = one.0.whole;
      run = subst IsRun (sym one.1) (first_is_run atoms count parts.each runs);
      left = left.0;
      runs = runs ∙ (λ i. sym one.1 i ∷ runs_of (sym left.1 i));
    }

-- ---- how the runs of a text are kept

pub runs_kept : (atoms : List (List ℕ)) (lens bytes : List ℕ) → All IsAtom atoms → length atoms < 2 ^ 32 → lens
    ≡ map length atoms → bytes ≡ concat atoms
    → IsAtomListParts lens bytes × (runs_of (pieces lens bytes) ≡ runs_of atoms)
runs_kept atoms lens bytes each few lengths all =
    let parts = parts_of atoms lens bytes each (omega (arith, few, ap length lengths, length-map atoms length))
    lengths all in
    (parts.0, ap runs_of parts.1)

pub no_runs : (lens bytes : List ℕ) → lens ≡ [] → runs_of (pieces lens bytes) ≡ []
no_runs lens bytes none = ap (λ (ls : List ℕ). runs_of (pieces ls bytes)) none
