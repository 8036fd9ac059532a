-- The atom of a run that has no other.
use Rattle.std.proofs.Common.{Some, None, ◌≡◌, ◌<◌, ◌+◌, ◌-◌, ◌/◌, ◌^◌, ◌∷◌, ◌==◌, [], ℕ, List, length}
use Rattle.std.proofs.Common.{take, slice_get, refl, sym, ap, ◌∙◌, arith, if◌then◌else◌}
use Rattle.std.specs.List.{concat}
use Rattle.std.specs.Int.Count.{count_trailing_zeros}
use Rattle.std.proofs.lemmas.Bool.{ne_eqb}
use Rattle.std.proofs.lemmas.List.{append-nil, length-take-le}
use Rattle.td_base.specs.Padded.{padded_with_zeros}
use Rattle.td_base.specs.AtomParts.{IsAtomParts}
use Rattle.td_base.specs.RunParts.{IsRunParts, HaveAtoms, atoms_of, ends_of, bytes_of}
use Rattle.td_base.specs.declared.atom.TheConstants.{MAX_ATOM_LEN}
use Rattle.td_base.specs.declared.run.TheConstants.{MAX_RUN_LEN}
use Rattle.td_base.proofs.Padding.{padded}
use Rattle.td_base.proofs.FirstAtom.{HasFirst, first_atom, none_left}

first_of_run : (bytes : List ℕ) (ends : ℕ) → IsRunParts bytes ends → HasFirst 64 bytes ends
first_of_run bytes ends parts =
    let have : HaveAtoms bytes ends = record {
      each = parts.run.each;
      zeros = MAX_RUN_LEN - length (concat (atoms_of ends bytes));
      bytes_again = parts.bytes_again;
      ends_again = parts.ends_again;
    } in
    first_atom 64 bytes ends (omega arith) have (λ none. omega
    (arith, ap length (none_left bytes ends none), parts.run.some))

-- the first atom ends with one of the 64 bytes
pub last_within : (bytes : List ℕ) (ends : ℕ) → IsRunParts bytes ends → count_trailing_zeros 64 ends < 64
last_within bytes ends parts =
    let first = first_of_run bytes ends parts in
    omega (
      arith,
      first.is.short,
      ap length first.front,
      length-take-le (count_trailing_zeros 64 ends + 1) bytes
          first.within,
    )

not_one : (atoms : List (List ℕ)) → ¬ (length atoms ≡ 1) → None
    ≡ (if length atoms == 1 then slice_get atoms 0 else None)
not_one atoms several = rw (ne_eqb (length atoms) 1 several) refl

-- a bit is set behind the first, so there are several atoms
pub several : (bytes : List ℕ) (ends : ℕ) (atoms : List (List ℕ)) → IsRunParts bytes ends → atoms_of ends bytes ≡ atoms
    → ¬ (ends / 2 ^ count_trailing_zeros 64 ends / 2 ≡ 0) → None
    ≡ (if length atoms == 1 then slice_get atoms 0 else None)
several bytes ends atoms parts view more = not_one atoms
    (λ one. more (none_behind first.rest (first.left.ends_again ∙ ap ends_of first.others) (sized one)))
  where
    first : HasFirst 64 bytes ends
    first = first_of_run bytes ends parts

    sized : length atoms ≡ 1 → length first.rest ≡ 0
    sized one = omega (arith, one, ap length view, ap length first.atoms)

    none_behind : (rest : List (List ℕ)) → ends / 2 ^ count_trailing_zeros 64 ends / 2 ≡ ends_of rest → length rest ≡ 0
        → ends / 2 ^ count_trailing_zeros 64 ends / 2 ≡ 0
    none_behind [] marked none = marked
    none_behind (a ∷ rest) marked none = absurd (omega (arith, none))

-- what keeps the run keeps its only atom
pub record IsOnly (last : ℕ) (bytes : List ℕ) (atoms : List (List ℕ)) : Type 0 where
  pub parts : IsAtomParts (last + 1) bytes
  pub run : atoms ≡ take (last + 1) bytes ∷ []
  pub atom : Some (take (last + 1) bytes) ≡ (if length atoms == 1 then slice_get atoms 0 else None)

pub only_one : (bytes : List ℕ) (ends : ℕ) (atoms : List (List ℕ)) → IsRunParts bytes ends → atoms_of ends bytes ≡ atoms
    → ends / 2 ^ count_trailing_zeros 64 ends / 2 ≡ 0 → IsOnly (count_trailing_zeros 64 ends) bytes atoms
only_one bytes ends atoms parts view none =
    let first = first_of_run bytes ends parts in
    let alone : atoms_of ends bytes ≡ first.atom ∷ [] = first.atoms
    ∙ ap (λ (rest : List (List ℕ)). first.atom ∷ rest) (sym first.others ∙ none_left _ _ none) in
    let one : atoms ≡ first.atom ∷ [] = sym view ∙ alone in
    let kept : bytes ≡ padded_with_zeros MAX_ATOM_LEN first.atom = parts.bytes_again ∙ ap bytes_of alone
    ∙ ap (padded_with_zeros MAX_ATOM_LEN) (append-nil first.atom) in
    let size : count_trailing_zeros 64 ends + 1 ≡ length first.atom =
    sym (length-take-le (count_trailing_zeros 64 ends + 1) bytes first.within) ∙ ap length first.front in
    record {
      parts = record {
        some = omega arith;
        padded = record {
          short = omega (arith, size, first.is.short);
          whole = ap length kept ∙ (padded MAX_ATOM_LEN first.atom first.is.short).whole;
          zeros = kept ∙ ap (padded_with_zeros MAX_ATOM_LEN) (sym first.front);
        };
        text = rw first.front first.is.text;
      };
      run = rw first.front one;
      atom = rw (one, first.front) refl;
    }
