-- Letters are atoms, and a list of them goes on with the next.
use Rattle.std.proofs.Common.{refl, ◌≡◌, ◌<◌, ◌+◌, ℕ, zero, suc, [], ◌∷◌, ◌++◌, ap, get_or, arith, ◌∙◌}
use Rattle.std.specs.Prelude.{map}
use Rattle.std.specs.List.{range_with_len}
use Rattle.std.proofs.lemmas.List.{map-append}
use Rattle.std.proofs.lemmas.List.FromFn.{map-range_with_len_more}
use Rattle.std.proofs.lemmas.Str.{IsUtf8-from_ascii}
use Rattle.td_base.specs.Atom.{IsAtom}
use Rattle.td_base.specs.Run.{letters}
use Rattle.td_gen.specs.Generator.{letter, letters_from}

ascii_byte : (byte : ℕ) → byte < 128 → (i : ℕ) → get_or (byte ∷ []) i 0 < 128
ascii_byte byte h zero = h
ascii_byte byte h (suc i) = omega arith

-- a letter is an atom
pub letter_is_atom : (n : ℕ) → IsAtom (letter n ∷ [])
letter_is_atom n =
    let small : letter n < 128 = omega arith in
    record {
      some = omega arith;
      short = omega arith;
      text = IsUtf8-from_ascii (letter n ∷ []) (ascii_byte (letter n) small);
    }

-- one letter more
pub one_more : (first count : ℕ) → letters_from first (count + 1) ≡ letters_from first count
    ++ (letter (first + count) ∷ []) ∷ []
one_more first count =
    ap letters (map-range_with_len_more letter first count (first + count) refl)
    ∙ map-append (λ (byte : ℕ). byte ∷ []) (map letter (range_with_len first count)) (letter (first + count) ∷ [])
