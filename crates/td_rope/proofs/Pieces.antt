-- How a chunk keeps its atoms.
use Rattle.std.proofs.Common.{◌≡◌, ◌<◌, ◌≤◌, ◌+◌, ◌-◌, ◌^◌, ◌++◌, ◌∷◌, [], ℕ, suc, List, length, map, take, drop}
use Rattle.std.proofs.Common.{get_or, sum, refl, sym, ap, subst, ◌∙◌, arith, length-append, length-drop, add-one}
use Rattle.std.specs.Prelude.{slice_range, remove, min}
use Rattle.std.proofs.Common.{⊎_elim}
use Rattle.std.proofs.lemmas.Bool.{cases_lt}
use Rattle.std.specs.List.{All, concat, insert_slice, take-map, drop-map}
use Rattle.std.proofs.lemmas.List.{map-append, take-append-drop, append-nil, length-take, take_min, take_all}
use Rattle.std.proofs.lemmas.List.Folds.{concat-append}
use Rattle.std.proofs.lemmas.List.Elements.{All-append, All-take, All-drop}
use Rattle.std.proofs.Math.Seq.{take-add, take-append_seam, drop-append_seam, drop-cons}
use Rattle.td_base.specs.Atom.{IsAtom}
use Rattle.td_base.specs.Run.{pieces}
use Rattle.td_base.proofs.RunPieces.{length_concat, piece_bytes, piece_lengths, pieces_again}
use Rattle.td_base.proofs.RunLemmas.{front_short}
use Rattle.td_rope.specs.ChunkParts.{IsChunkParts}
use Rattle.td_rope.proofs.Joined.{length_put, length_removed, no_range, range_behind}

-- there are as many pieces as lengths
pub count_pieces : (lens bytes : List ℕ) → length (pieces lens bytes) ≡ length lens
count_pieces [] bytes = refl
count_pieces (len ∷ lens) bytes = ap suc (count_pieces lens (drop len bytes))

-- what keeps these atoms
pub parts_of : (atoms : List (List ℕ)) (lens bytes : List ℕ) → All IsAtom atoms → length atoms < 2 ^ 32 → lens
    ≡ map length atoms → bytes ≡ concat atoms
    → IsChunkParts lens bytes × (pieces lens bytes ≡ atoms)
parts_of atoms lens bytes each few lens_are bytes_are =
    let again : pieces lens bytes ≡ atoms = (λ i. pieces (lens_are i) (bytes_are i)) ∙ pieces_again atoms in
    let whole : sum lens ≡ length bytes = ap sum lens_are ∙ sym (length_concat atoms) ∙ ap length (sym bytes_are) in
    let count : length lens ≡ length atoms = sym (count_pieces lens bytes) ∙ ap length again in
    (record { whole = whole; each = subst (All IsAtom) (sym again) each; few = omega (arith, few, count) }, again)

-- ---- bytes and atoms up to a place

pub parted : (atoms : List (List ℕ)) (i : ℕ) → concat atoms ≡ concat (take i atoms) ++ concat (drop i atoms)
parted atoms i = ap concat (sym (take-append-drop i atoms)) ∙ concat-append (take i atoms) (drop i atoms)

-- the bytes before the i-th atom, and from it on
pub bytes_before : (atoms : List (List ℕ)) (i : ℕ) → take (length (concat (take i atoms))) (concat atoms)
    ≡ concat (take i atoms)
bytes_before atoms i =
    ap (take (length (concat (take i atoms)))) (parted atoms i)
    ∙ take-append_seam (concat (take i atoms)) (concat (drop i atoms))

pub bytes_from : (atoms : List (List ℕ)) (i : ℕ) → drop (length (concat (take i atoms))) (concat atoms)
    ≡ concat (drop i atoms)
bytes_from atoms i =
    ap (drop (length (concat (take i atoms)))) (parted atoms i)
    ∙ drop-append_seam (concat (take i atoms)) (concat (drop i atoms))

-- the lengths before a place come to where it starts
pub start_is : (lens bytes : List ℕ) (i : ℕ) → sum lens ≡ length bytes → sum (take i lens)
    ≡ length (concat (take i (pieces lens bytes)))
start_is lens bytes i whole =
    let atoms : List (List ℕ) = pieces lens bytes in
    ap (λ (ls : List ℕ). sum (take i ls)) (sym (piece_lengths lens bytes whole)) ∙ ap sum (take-map length i atoms)
    ∙ sym (length_concat (take i atoms))

-- ---- what a chunk keeps

-- after the atoms of a run were put
pub put_parts : (lens bytes lens' bytes' : List ℕ) (run : List (List ℕ)) (i a : ℕ) → IsChunkParts lens bytes
    → All IsAtom run
    → length (pieces lens bytes) + length run < 2 ^ 32 → i ≤ length (pieces lens bytes)
    → a ≡ length (concat (take i (pieces lens bytes)))
    → lens' ≡ insert_slice lens i (map length run) → bytes' ≡ insert_slice bytes a (concat run)
    → IsChunkParts lens' bytes' × (pieces lens' bytes' ≡ insert_slice (pieces lens bytes) i run)
put_parts lens bytes lens' bytes' run i a parts each few le a_is lens_are bytes_are =
    let atoms : List (List ℕ) = pieces lens bytes in
    let front : List (List ℕ) = take i atoms in
    let back : List (List ℕ) = drop i atoms in
    let all_each : All IsAtom ((front ++ run) ++ back) =
    All-append IsAtom (front ++ run) back (All-append IsAtom front run (All-take IsAtom i atoms parts.each) each)
    (All-drop IsAtom i atoms parts.each) in
    let lengths : map length ((front ++ run) ++ back) ≡ (take i lens ++ map length run) ++ drop i lens =
    map-append length (front ++ run) back ∙ ap (λ (ls : List ℕ). ls ++ map length back) (map-append length front run)
    ∙ (λ j. (sym (take-map length i atoms) j ++ map length run) ++ sym (drop-map length i atoms) j)
    ∙ ap (λ (ls : List ℕ). (take i ls ++ map length run) ++ drop i ls) (piece_lengths lens bytes parts.whole) in
    let all_bytes : concat ((front ++ run) ++ back) ≡ (take a bytes ++ concat run) ++ drop a bytes =
    concat-append (front ++ run) back ∙ ap (λ (bs : List ℕ). bs ++ concat back) (concat-append front run)
    ∙ (λ j. (sym (bytes_before atoms i) j ++ concat run) ++ sym (bytes_from atoms i) j)
    ∙ (λ j. (take (sym a_is j) (piece_bytes lens bytes parts.whole j) ++ concat run)
    ++ drop (sym a_is j) (piece_bytes lens bytes parts.whole j)) in
    parts_of ((front ++ run) ++ back) lens' bytes' all_each (omega (arith, few, length_put atoms run i le))
    (lens_are ∙ sym lengths) (bytes_are ∙ sym all_bytes)

-- after the i-th atom was taken out
pub parts_without : (lens bytes lens' bytes' : List ℕ) (i a b : ℕ) → IsChunkParts lens bytes
    → i < length (pieces lens bytes)
    → a ≡ length (concat (take i (pieces lens bytes))) → b ≡ length (concat (take (i + 1) (pieces lens bytes)))
    → lens' ≡ remove lens i → bytes' ≡ take a bytes ++ drop b bytes
    → IsChunkParts lens' bytes' × (pieces lens' bytes' ≡ remove (pieces lens bytes) i)
parts_without lens bytes lens' bytes' i a b parts lt a_is b_is lens_are bytes_are =
    let atoms : List (List ℕ) = pieces lens bytes in
    let front : List (List ℕ) = take i atoms in
    let back : List (List ℕ) = drop (suc i) atoms in
    let all_each : All IsAtom (front ++ back) = All-append IsAtom front back (All-take IsAtom i atoms parts.each)
    (All-drop IsAtom (suc i) atoms parts.each) in
    let lengths : map length (front ++ back) ≡ take i lens ++ drop (suc i) lens =
    map-append length front back ∙ (λ j. sym (take-map length i atoms) j ++ sym (drop-map length (suc i) atoms) j)
    ∙ ap (λ (ls : List ℕ). take i ls ++ drop (suc i) ls) (piece_lengths lens bytes parts.whole) in
    let behind : b ≡ length (concat (take (suc i) atoms)) = b_is
    ∙ ap (λ k. length (concat (take k atoms))) (add-one i) in
    let all_bytes : concat (front ++ back) ≡ take a bytes ++ drop b bytes =
    concat-append front back ∙ (λ j. sym (bytes_before atoms i) j ++ sym (bytes_from atoms (suc i)) j)
    ∙ (λ j. take (sym a_is j) (piece_bytes lens bytes parts.whole j)
    ++ drop (sym behind j) (piece_bytes lens bytes parts.whole j)) in
    parts_of (front ++ back) lens' bytes' all_each
    (omega (arith, parts.few, count_pieces lens bytes, lt, length_removed atoms i lt)) (lens_are ∙ sym lengths)
    (bytes_are ∙ sym all_bytes)

-- ---- stretches of it

-- where two places start differs by the bytes between them
pub starts : (atoms : List (List ℕ)) (from to : ℕ) → from ≤ to
    → length (concat (take to atoms)) ≡ length (concat (take from atoms)) + length (concat (slice_range atoms from to))
starts atoms from to le =
    let a : List (List ℕ) = take from atoms in
    let b : List (List ℕ) = slice_range atoms from to in
    let both : take to atoms ≡ a ++ b = ap (λ k. take k atoms) (there from to le) ∙ take-add from (to - from) atoms in
    ap (λ (front : List (List ℕ)). length (concat front)) both ∙ ap length (concat-append a b)
    ∙ length-append (concat a) (concat b)
  where
    there : (from to : ℕ) → from ≤ to → to ≡ from + (to - from)
    there from to le = omega (arith, le)

-- the bytes of a stretch stand together
pub stretch_bytes : (lens bytes : List ℕ) (from to a b : ℕ) → sum lens ≡ length bytes → from ≤ to
    → a ≡ length (concat (take from (pieces lens bytes))) → b ≡ length (concat (take to (pieces lens bytes)))
    → slice_range bytes a b ≡ concat (slice_range (pieces lens bytes) from to)
stretch_bytes lens bytes from to a b whole le a_is b_is =
    let atoms : List (List ℕ) = pieces lens bytes in
    let part : List (List ℕ) = slice_range atoms from to in
    let size : b - a ≡ length (concat part) = omega (arith, a_is, b_is, starts atoms from to le) in
    let behind : drop a bytes ≡ concat (drop from atoms) =
    (λ j. drop (a_is j) (sym (piece_bytes lens bytes whole) j)) ∙ bytes_from atoms from in
    (λ j. take (size j) (behind j)) ∙ bytes_before (drop from atoms) (to - from)

-- what keeps a stretch
pub stretch_parts : (lens bytes lens' bytes' : List ℕ) (from to : ℕ) → IsChunkParts lens bytes
    → lens' ≡ slice_range lens from to → bytes' ≡ concat (slice_range (pieces lens bytes) from to)
    → IsChunkParts lens' bytes' × (pieces lens' bytes' ≡ slice_range (pieces lens bytes) from to)
stretch_parts lens bytes lens' bytes' from to parts lens_are bytes_are =
    let atoms : List (List ℕ) = pieces lens bytes in
    let part : List (List ℕ) = slice_range atoms from to in
    let each : All IsAtom part = All-take IsAtom (to - from) (drop from atoms) (All-drop IsAtom from atoms parts.each)
    in
    let lengths : map length part ≡ slice_range lens from to =
    sym (take-map length (to - from) (drop from atoms)) ∙ ap (take (to - from)) (sym (drop-map length from atoms))
    ∙ ap (λ (ls : List ℕ). slice_range ls from to) (piece_lengths lens bytes parts.whole) in
    let few : length part < 2 ^ 32 =
    omega (
      arith,
      parts.few,
      count_pieces lens bytes,
      length-take (to - from) (drop from atoms),
      length-drop from
          atoms,
    ) in
    parts_of part lens' bytes' each few (lens_are ∙ sym lengths) bytes_are

-- a place is within the bytes
pub ends_within : (lens bytes : List ℕ) (now : List (List ℕ)) (to b : ℕ) → sum lens ≡ length bytes → pieces lens bytes
    ≡ now
    → b ≡ length (concat (take to now)) → b ≤ length bytes
ends_within lens bytes now to b whole is b_is =
    omega (
      arith,
      b_is,
      front_short now to,
      ap (λ (atoms : List (List ℕ)). length (concat atoms)) is,
      ap length
          (piece_bytes lens bytes whole),
    )

-- the two parts of a list
pub halves : {X : Type 0} (xs : List X) (cut end : ℕ) → cut ≤ end → end ≡ length xs → slice_range xs 0 cut
    ++ slice_range xs cut end ≡ xs
halves xs cut end le end_is =
    let front : slice_range xs 0 cut ≡ take cut xs = ap (λ k. take k xs) (same cut) in
    let back : slice_range xs cut end ≡ drop cut xs =
    take_all (end - cut) (drop cut xs) (omega (arith, end_is, length-drop cut xs)) in
    (λ j. front j ++ back j) ∙ take-append-drop cut xs
  where
    same : (cut : ℕ) → cut - 0 ≡ cut
    same cut = omega arith

-- the bytes of one atom
pub one_atom : (atoms : List (List ℕ)) (i : ℕ) → i < length atoms → concat (slice_range atoms i (i + 1))
    ≡ get_or atoms i []
one_atom atoms i lt =
    let x : List ℕ = get_or atoms i [] in
    let one : slice_range atoms i (i + 1) ≡ x ∷ [] = λ j. take (only i j) (drop-cons atoms i [] lt j) in
    ap concat one ∙ append-nil x
  where
    only : (i : ℕ) → i + 1 - i ≡ 1
    only i = omega arith

-- a range cut to what there is
clamped_within : {X : Type 0} (xs : List X) (from to last : ℕ) → last ≡ min to (length xs) → from ≤ last
    → slice_range xs from last ≡ slice_range xs from to
clamped_within xs from to last last_is le =
    let left : last - from ≡ min (to - from) (length (drop from xs)) =
    omega (arith, last_is, le, length-drop from xs) in
    ap (λ k. take k (drop from xs)) left ∙ take_min (to - from) (drop from xs)

clamped_behind : {X : Type 0} (xs : List X) (from to last : ℕ) → last ≡ min to (length xs) → last ≤ from
    → slice_range xs from to ≡ []
clamped_behind xs from to last last_is ge =
    ⊎_elim (λ (lt : to < length xs). no_range xs from to (omega (arith, last_is, ge, lt)))
    (λ (le : length xs ≤ to). range_behind xs from to (omega (arith, last_is, ge, le))) (cases_lt to (length xs))

pub clamped : {X : Type 0} (xs : List X) (from to last first : ℕ) → last ≡ min to (length xs) → first ≡ min from last
    → slice_range xs first last ≡ slice_range xs from to
clamped xs from to last first last_is first_is =
    ⊎_elim (λ (lt : from < last). within (omega (arith, lt)) (omega (arith, first_is, lt)))
    (λ (ge : last ≤ from). without ge (omega (arith, first_is, ge))) (cases_lt from last)
  where
    within : from ≤ last → first ≡ from → slice_range xs first last ≡ slice_range xs from to
    within le same = ap (λ k. slice_range xs k last) same ∙ clamped_within xs from to last last_is le

    without : last ≤ from → first ≡ last → slice_range xs first last ≡ slice_range xs from to
    without ge same = ap (λ k. slice_range xs k last) same ∙ no_range xs last last (omega arith)
        ∙ sym (clamped_behind xs from to last last_is ge)
