-- How an `AtomList` keeps its atoms.
use Rattle.std.proofs.Common.{◌≡◌, ◌<◌, ◌≤◌, ◌+◌, ◌^◌, ◌++◌, ◌∷◌, [], ℕ, suc, List, length, map, take, drop}
use Rattle.std.proofs.Common.{replicate, sum, refl, sym, ap, subst, ◌∙◌, arith, length-append, length-drop}
use Rattle.std.specs.List.{All, concat}
use Rattle.std.specs.Str.{IsAscii}
use Rattle.std.proofs.lemmas.List.{map_push, length-replicate}
use Rattle.std.proofs.lemmas.List.Sums.{sum_by-cons}
use Rattle.std.proofs.lemmas.List.Elements.{All-append, All-cons, All-head, All-nil, All-tail}
use Rattle.std.proofs.lemmas.Str.{IsAscii-take, IsUtf8-from_ascii}
use Rattle.td_base.specs.Atom.{IsAtom}
use Rattle.td_base.specs.Run.{letters, pieces}
use Rattle.td_base.proofs.RunLemmas.{concat_push}
use Rattle.td_base.proofs.RunPieces.{length_concat, piece_bytes, piece_lengths, pieces_again}
use Rattle.td_text.specs.AtomListParts.{IsAtomListParts}

-- there are as many pieces as lengths
pub count_pieces : (lens bytes : List ℕ) → length (pieces lens bytes) ≡ length lens
count_pieces [] bytes = refl
count_pieces (len ∷ lens) bytes = ap suc (count_pieces lens (drop len bytes))

-- what keeps these atoms
pub parts_of : (atoms : List (List ℕ)) (lens bytes : List ℕ) → All IsAtom atoms → length lens < 2 ^ 32 → lens
    ≡ map length atoms → bytes ≡ concat atoms
    → IsAtomListParts lens bytes × (pieces lens bytes ≡ atoms)
parts_of atoms lens bytes each few lens_are bytes_are =
    let again : pieces lens bytes ≡ atoms = (λ i. pieces (lens_are i) (bytes_are i)) ∙ pieces_again atoms in
    let whole : sum lens ≡ length bytes = ap sum lens_are ∙ sym (length_concat atoms) ∙ ap length (sym bytes_are) in
    (record { whole = whole; each = subst (All IsAtom) (sym again) each; few = few }, again)

-- one atom more
pub with_atom : (lens bytes atom : List ℕ) → IsAtomListParts lens bytes → IsAtom atom → length lens + 1 < 2 ^ 32
    → IsAtomListParts (lens ++ length atom ∷ []) (bytes ++ atom)
    × (pieces (lens ++ length atom ∷ []) (bytes ++ atom) ≡ pieces lens bytes ++ atom ∷ [])
with_atom lens bytes atom parts is few =
    let atoms : List (List ℕ) = pieces lens bytes in
    let each = All-append IsAtom atoms (atom ∷ []) parts.each (All-cons IsAtom atom [] is (All-nil IsAtom)) in
    let lengths : map length (atoms ++ atom ∷ []) ≡ lens ++ length atom ∷ [] =
    map_push length atoms atom ∙ ap (λ (ls : List ℕ). ls ++ length atom ∷ []) (piece_lengths lens bytes parts.whole) in
    let all : concat (atoms ++ atom ∷ []) ≡ bytes ++ atom = concat_push atoms atom
    ∙ ap (λ (bs : List ℕ). bs ++ atom) (piece_bytes lens bytes parts.whole) in
    parts_of (atoms ++ atom ∷ []) _ _ each (omega (arith, few, length-append lens (length atom ∷ []))) (sym lengths)
    (sym all)

-- how the letters of a text are kept
letters_lengths : (text : List ℕ) → replicate (length text) 1 ≡ map length (letters text)
letters_lengths [] = refl
letters_lengths (b ∷ text) = ap (λ (lens : List ℕ). 1 ∷ lens) (letters_lengths text)

letters_bytes : (text : List ℕ) → text ≡ concat (letters text)
letters_bytes [] = refl
letters_bytes (b ∷ text) = ap (λ (bytes : List ℕ). b ∷ bytes) (letters_bytes text)

-- each letter of ASCII is an atom
pub letters_each : (text : List ℕ) → IsAscii text → All IsAtom (letters text)
letters_each [] ascii = All-nil IsAtom
letters_each (b ∷ text) ascii =
    let first : IsAtom (b ∷ []) = record {
      some = omega arith;
      short = omega arith;
      text = IsUtf8-from_ascii (b ∷ []) (IsAscii-take (b ∷ text) 1 ascii);
    } in
    All-cons IsAtom (b ∷ []) (letters text) first (letters_each text (λ i. ascii (suc i)))

-- the bytes of a text of ASCII, and a length of 1 for each, keep its letters
pub of_letters : (text lens bytes : List ℕ) → IsAscii text → length text < 2 ^ 32
    → lens ≡ replicate (length text) 1 → bytes ≡ text
    → IsAtomListParts lens bytes × (pieces lens bytes ≡ letters text)
of_letters text lens bytes ascii few lens_are bytes_are =
    let count : length lens ≡ length text = ap length lens_are ∙ length-replicate {A = ℕ} (length text) 1 in
    parts_of (letters text) lens bytes (letters_each text ascii) (omega (arith, few, count))
    (lens_are ∙ letters_lengths text) (bytes_are ∙ letters_bytes text)

-- the first atom, and what keeps those behind it
pub record IsFirstPart (len : ℕ) (lens bytes : List ℕ) : Type 0 where
  pub within : len ≤ length bytes
  pub is : IsAtom (take len bytes)
  pub others : IsAtomListParts lens (drop len bytes)

pub first_part : (len : ℕ) (lens bytes : List ℕ) → IsAtomListParts (len ∷ lens) bytes → IsFirstPart len lens bytes
first_part len lens bytes parts =
    let first = sum_by-cons (λ (n : ℕ). n) len lens in
    let atom : List ℕ = take len bytes in
    let others : List (List ℕ) = pieces lens (drop len bytes) in
    record {
      within = omega (arith, parts.whole, first);
      is = All-head IsAtom atom others parts.each;
      others = record {
        whole = omega (arith, parts.whole, first, length-drop len bytes);
        each = All-tail IsAtom atom others parts.each;
        few = omega (arith, parts.few);
      };
    }
