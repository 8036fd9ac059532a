-- The bytes of a run, the lengths of its atoms, and the run that is cut from both.
use Rattle.std.proofs.Common.{◌≡◌, ◌<◌, ◌≤◌, ◌+◌, ◌-◌, ◌*◌, ◌/◌, ◌%◌, ◌^◌, ◌++◌, ◌∷◌, [], ℕ, suc}
use Rattle.std.proofs.Common.{List, length, map, take, drop, get_or, replicate, sum, refl, sym, ap}
use Rattle.std.proofs.Common.{◌∙◌, arith, length-append, length-drop}
use Rattle.std.specs.Prelude.{slice_set}
use Rattle.std.specs.List.{All, concat}
use Rattle.std.specs.Int.RustNames.{bit_or}
use Rattle.std.specs.Int.Count.{count_trailing_zeros, count_leading_zeros, leading_unique}
use Rattle.std.proofs.Math.Nat.{mul-le-mul_left, div-div-eq-div-mul}
use Rattle.std.proofs.Math.Seq.{set-append_seam}
use Rattle.std.proofs.lemmas.Nat.{pow-add}
use Rattle.std.proofs.lemmas.List.{append_assoc, append-nil, take_at, drop_at, take_all, take_more, take-append-drop}
use Rattle.std.proofs.lemmas.List.{drop-replicate, length-take-le, length-map, map_push, get_or-map, nil_from_length}
use Rattle.std.proofs.lemmas.List.Sums.{sum_by-cons}
use Rattle.std.proofs.lemmas.List.Elements.{All-head, All-tail, All-take}
use Rattle.td_base.specs.declared.atom.TheConstants.{MAX_ATOM_LEN}
use Rattle.td_base.specs.declared.run.TheConstants.{MAX_RUN_LEN}
use Rattle.td_base.specs.Atom.{IsAtom}
use Rattle.td_base.specs.Run.{IsRun, pieces}
use Rattle.td_base.specs.RunParts.{IsRunParts, atoms_of, ends_of, bytes_of}
use Rattle.td_base.proofs.RunLemmas.{next_atom, whole_power, ends_below, concat_push, front_short, mark_end, parts_of}

-- ---- the bytes

-- the highest bit that is set is that of the last byte
ends_above : (atoms : List (List ℕ)) → All IsAtom atoms → 2 ^ length (concat atoms) ≤ 2 * ends_of atoms + 1
ends_above [] each = omega arith
ends_above (atom ∷ atoms) each =
    let front : ℕ = 2 ^ (length atom - 1) in
    let above : 2 ^ length (concat atoms) ≤ 2 * ends_of atoms + 1 =
    ends_above atoms (All-tail IsAtom atom atoms each) in
    let scaled : front * 2 ^ length (concat atoms) ≤ front * (2 * ends_of atoms + 1) = mul-le-mul_left front above in
    rw (whole_power atom atoms (All-head IsAtom atom atoms each).some) (omega (arith, scaled))

pub bytes_are : (w : ℕ) (atoms : List (List ℕ)) (bytes : List ℕ) (ends : ℕ) → MAX_RUN_LEN ≤ w → IsRun atoms → bytes
    ≡ bytes_of atoms → ends ≡ ends_of atoms
    → take (w - count_leading_zeros w ends) bytes ≡ concat atoms
bytes_are w atoms bytes ends wide run kept marked =
    let len : ℕ = length (concat atoms) in
    let zeros : w - len ≡ count_leading_zeros w (ends_of atoms) =
    leading_unique w (ends_of atoms) (w - len) len (omega (arith, wide, run.short)) (ends_below atoms run.each)
    (ends_above atoms run.each) in
    let size : w - count_leading_zeros w ends ≡ len = rw (marked, ← zeros) (omega (arith, wide, run.short)) in
    rw (size, kept) (take_at (concat atoms) _ len refl)

-- ---- the lengths

-- each atom has a byte at least
pub count_within : (atoms : List (List ℕ)) → All IsAtom atoms → length atoms ≤ length (concat atoms)
count_within [] each = omega arith
count_within (atom ∷ atoms) each =
    omega (
      arith,
      (All-head IsAtom atom atoms each).some,
      count_within atoms (All-tail IsAtom atom atoms each),
      length-append atom (concat atoms),
    )

-- the lengths of the atoms up to a place, and zeros
abbrev pub lengths_upto : List (List ℕ) → ℕ → List ℕ
lengths_upto atoms i = map length (take i atoms) ++ replicate (MAX_RUN_LEN - i) 0

-- how the length of the atom at a place is found and put behind those before it
pub record IsNextLength (w : ℕ) (atoms : List (List ℕ)) (i : ℕ) (lengths : List ℕ) (ends : ℕ) : Type 0 where
  pub within : i < MAX_RUN_LEN
  pub shift : count_trailing_zeros w ends < w
  pub lengths_next : slice_set lengths i (count_trailing_zeros w ends + 1) ≡ lengths_upto atoms (i + 1)
  pub ends_next : ends / 2 ^ count_trailing_zeros w ends / 2 ≡ ends_of (drop (i + 1) atoms)

pub next_length : (w : ℕ) (atoms : List (List ℕ)) (i : ℕ) (lengths : List ℕ) (ends : ℕ) → MAX_ATOM_LEN ≤ w
    → IsRun atoms → i < length atoms
    → lengths ≡ lengths_upto atoms i → ends ≡ ends_of (drop i atoms) → IsNextLength w atoms i lengths ends
next_length w atoms i lengths ends wide run lt so_far marked =
    let atom : List ℕ = get_or atoms i [] in
    let next = next_atom w atoms i wide run lt in
    let last : ℕ = count_trailing_zeros w ends in
    let size : last + 1 ≡ length atom = rw marked (next.end) in
    let within : i < MAX_RUN_LEN = omega (arith, lt, count_within atoms run.each, run.short) in
    let left : MAX_RUN_LEN - i ≡ suc (MAX_RUN_LEN - (i + 1)) = omega (arith, within) in
    let front : List ℕ = map length (take i atoms) in
    let count : length front ≡ i = length-map (take i atoms) length ∙ length-take-le i atoms (omega (arith, lt)) in
    let room : lengths ≡ front ++ 0 ∷ replicate (MAX_RUN_LEN - (i + 1)) 0 = so_far
    ∙ ap (λ (n : ℕ). front ++ replicate n 0) left in
    let more : map length (take (i + 1) atoms) ≡ front ++ (last + 1) ∷ [] =
    ap (map length) (take_more atoms i [] lt) ∙ map_push length (take i atoms) atom
    ∙ ap (λ (n : ℕ). front ++ n ∷ []) (sym size) in
    record {
      within = within;
      shift = omega (arith, size, next.is.short, wide);
      lengths_next = ap (λ (ls : List ℕ). slice_set ls i (last + 1)) room
          ∙ ap (λ (k : ℕ). slice_set (front ++ 0 ∷ replicate (MAX_RUN_LEN - (i + 1)) 0) k (last + 1)) (sym count)
          ∙ set-append_seam front 0 (replicate (MAX_RUN_LEN - (i + 1)) 0) (last + 1)
          ∙ sym (append_assoc front ((last + 1) ∷ []) (replicate (MAX_RUN_LEN - (i + 1)) 0))
          ∙ ap (λ (ls : List ℕ). ls ++ replicate (MAX_RUN_LEN - (i + 1)) 0) (sym more);
      ends_next = div-div-eq-div-mul ends (2 ^ last) 2
          ∙ ap (λ (n : ℕ). ends / n) (sym (pow-add 2 last 1) ∙ ap (λ (n : ℕ). 2 ^ n) size)
          ∙ ap (λ (n : ℕ). n / 2 ^ length atom) marked ∙ next.behind;
    }

-- all lengths
pub all_lengths : (atoms : List (List ℕ)) (i : ℕ) (lengths : List ℕ) → i ≡ length atoms → lengths ≡ lengths_upto atoms i
    → lengths ≡ map length atoms ++ replicate (MAX_RUN_LEN - length atoms) 0
all_lengths atoms i lengths end so_far =
    so_far ∙ ap (λ (front : List (List ℕ)). map length front ++ replicate (MAX_RUN_LEN - i) 0)
    (take_all i atoms (omega (arith, end)))
    ∙ ap (λ (n : ℕ). map length atoms ++ replicate (MAX_RUN_LEN - n) 0) end

-- ---- pieces

-- the atoms have as many bytes as their lengths come to
pub length_concat : (atoms : List (List ℕ)) → length (concat atoms) ≡ sum (map length atoms)
length_concat [] = refl
length_concat (atom ∷ atoms) =
    omega (
      arith,
      length-append atom (concat atoms),
      length_concat atoms,
      sum_by-cons (λ (n : ℕ). n) (length atom)
          (map length atoms),
    )

-- the first piece, and the rest
first_piece : (len : ℕ) (lens bytes : List ℕ) → sum (len ∷ lens) ≡ length bytes → (length (take len bytes) ≡ len)
    × (sum lens ≡ length (drop len bytes))
first_piece len lens bytes whole =
    let first = sum_by-cons (λ (n : ℕ). n) len lens in
    let size = length-drop len bytes in
    (length-take-le len bytes (omega (arith, whole, first)), omega (arith, whole, first, size))

pub piece_lengths : (lens bytes : List ℕ) → sum lens ≡ length bytes → map length (pieces lens bytes) ≡ lens
piece_lengths [] bytes whole = refl
piece_lengths (len ∷ lens) bytes whole =
    let first = first_piece len lens bytes whole in
    let size : length (take len bytes) ≡ len = first.0 in
    rw (size, piece_lengths lens (drop len bytes) first.1) refl

pub piece_bytes : (lens bytes : List ℕ) → sum lens ≡ length bytes → concat (pieces lens bytes) ≡ bytes
piece_bytes [] bytes whole = sym (nil_from_length bytes (omega (arith, whole)))
piece_bytes (len ∷ lens) bytes whole =
    ap (λ (rest : List ℕ). take len bytes ++ rest)
    (piece_bytes lens (drop len bytes) (first_piece len lens bytes whole).1) ∙ take-append-drop len bytes

-- atoms are the pieces of their lengths, cut from their bytes, whatever stands behind these
pub pieces_in_front : (atoms : List (List ℕ)) (rest : List ℕ) → pieces (map length atoms) (concat atoms ++ rest) ≡ atoms
pieces_in_front [] rest = refl
pieces_in_front (atom ∷ atoms) rest =
    let first : take (length atom) ((atom ++ concat atoms) ++ rest)
    ≡ atom = rw append_assoc (take_at atom (concat atoms ++ rest) (length atom) refl) in
    let others : drop (length atom) ((atom ++ concat atoms) ++ rest) ≡ concat atoms
    ++ rest = rw append_assoc (drop_at atom (concat atoms ++ rest) (length atom) refl) in
    rw (first, others, pieces_in_front atoms rest) refl

pub pieces_again : (atoms : List (List ℕ)) → pieces (map length atoms) (concat atoms) ≡ atoms
pieces_again atoms = ap (pieces (map length atoms)) (sym (append-nil (concat atoms))) ∙ pieces_in_front atoms []

-- how the piece at a place is marked behind those before it
pub record IsNextPiece (w : ℕ) (atoms : List (List ℕ)) (i len end ends : ℕ) : Type 0 where
  pub some : 0 < len
  pub end_is : end + len ≡ length (concat (take (i + 1) atoms))
  pub short : end + len ≤ MAX_RUN_LEN
  pub ends_next : bit_or ends (1 * 2 ^ (end + len - 1) % 2 ^ w) ≡ ends_of (take (i + 1) atoms)

pub next_piece : (w : ℕ) (lens bytes : List ℕ) (i end ends : ℕ) → MAX_RUN_LEN ≤ w → sum lens ≡ length bytes
    → IsRun (pieces lens bytes) → i < length lens
    → end ≡ length (concat (take i (pieces lens bytes))) → ends ≡ ends_of (take i (pieces lens bytes))
    → IsNextPiece w (pieces lens bytes) i (get_or lens i 0) end ends
next_piece w lens bytes i end ends wide whole run lt at marked =
    let atoms : List (List ℕ) = pieces lens bytes in
    let atom : List ℕ = get_or atoms i [] in
    let lengths : map length atoms ≡ lens = piece_lengths lens bytes whole in
    let within : i < length atoms = omega (arith, lt, ap length lengths, length-map atoms length) in
    let size : get_or lens i 0 ≡ length atom = ap (λ (ls : List ℕ). get_or ls i 0) (sym lengths)
    ∙ get_or-map length atoms i [] 0 within in
    let next : take (i + 1) atoms ≡ take i atoms ++ atom ∷ [] = take_more atoms i [] within in
    let long : length (concat (take (i + 1) atoms)) ≡ length (concat (take i atoms)) + length atom =
    ap (λ (front : List (List ℕ)). length (concat front)) next ∙ ap length (concat_push (take i atoms) atom)
    ∙ length-append (concat (take i atoms)) atom in
    let some : 0 < length atom = (run.each i [] within).some in
    let short : end + get_or lens i 0 ≤ MAX_RUN_LEN =
    omega (arith, at, size, long, front_short atoms (i + 1), run.short) in
    record {
      some = rw size some;
      end_is = omega (arith, at, size, long);
      short = short;
      ends_next = rw (marked, next) (mark_end w (take i atoms) atom (end + get_or lens i 0)
          (All-take IsAtom i atoms run.each) some (omega (arith, at, size)) (omega (arith, short, wide)));
    }

-- the bytes of a run
pub pieces_short : (lens bytes : List ℕ) → sum lens ≡ length bytes → IsRun (pieces lens bytes)
    → length bytes ≤ MAX_RUN_LEN
pieces_short lens bytes whole run = omega (arith, ap length (piece_bytes lens bytes whole), run.short)

-- all pieces, marked, and the bytes, copied to the front of an array of zeros
pub cut_parts : (lens bytes copied zeros : List ℕ) (i ends : ℕ) → sum lens ≡ length bytes → IsRun (pieces lens bytes)
    → length lens ≤ i
    → ends ≡ ends_of (take i (pieces lens bytes)) → copied ≡ bytes → zeros ≡ replicate MAX_RUN_LEN 0
    → IsRunParts (copied ++ drop (length bytes) zeros) ends
    × (atoms_of ends (copied ++ drop (length bytes) zeros) ≡ pieces lens bytes)
cut_parts lens bytes copied zeros i ends whole run end marked same all =
    let atoms : List (List ℕ) = pieces lens bytes in
    let count : length atoms ≡ length lens = sym (length-map atoms length)
    ∙ ap length (piece_lengths lens bytes whole) in
    let array : copied ++ drop (length bytes) zeros ≡ bytes_of atoms =
    rw (same, all, piece_bytes lens bytes whole) (ap (λ (z : List ℕ). bytes ++ z)
    (drop-replicate (length bytes) MAX_RUN_LEN 0)) in
    parts_of atoms _ _ run array (marked ∙ ap ends_of (take_all i atoms (omega (arith, count, end))))
