-- The first of the atoms that bytes begin with, and those behind it.
use Rattle.std.proofs.Common.{◌≡◌, ◌≤◌, ◌+◌, ◌/◌, ◌^◌, ◌++◌, ◌∷◌, [], ℕ, List, length, take, drop}
use Rattle.std.proofs.Common.{replicate, refl, sym, ap, ◌∙◌, subst, arith, length-append}
use Rattle.std.specs.List.{All, concat}
use Rattle.std.specs.Int.Count.{count_trailing_zeros}
use Rattle.std.proofs.Math.Nat.{div-div-eq-div-mul}
use Rattle.std.proofs.lemmas.Nat.{pow-add}
use Rattle.std.proofs.lemmas.List.{append_assoc, take_at, drop_at}
use Rattle.std.proofs.lemmas.List.Elements.{All-head, All-tail}
use Rattle.td_base.specs.declared.atom.TheConstants.{MAX_ATOM_LEN}
use Rattle.td_base.specs.Atom.{IsAtom}
use Rattle.td_base.specs.RunParts.{HaveAtoms, atoms_of, ends_of}
use Rattle.td_base.proofs.RunLemmas.{atoms_again, first_end, shift_end, no_ends}

pub record HasFirst (w : ℕ) (bytes : List ℕ) (ends : ℕ) : Type 0 where
  pub atom : List ℕ
  pub rest : List (List ℕ)
  pub atoms : atoms_of ends bytes ≡ atom ∷ rest
  pub is : IsAtom atom
  pub within : count_trailing_zeros w ends + 1 ≤ length bytes
  pub front : take (count_trailing_zeros w ends + 1) bytes ≡ atom
  pub left : HaveAtoms (drop (count_trailing_zeros w ends + 1) bytes) (ends / 2 ^ count_trailing_zeros w ends / 2)
  pub others : atoms_of (ends / 2 ^ count_trailing_zeros w ends / 2) (drop (count_trailing_zeros w ends + 1) bytes)
      ≡ rest

-- where the atoms are a first one and a rest
first_of : (w : ℕ) (bytes : List ℕ) (ends zeros : ℕ) (atom : List ℕ) (rest : List (List ℕ)) → MAX_ATOM_LEN ≤ w
    → atoms_of ends bytes ≡ atom ∷ rest → All IsAtom (atom ∷ rest) → bytes ≡ concat (atom ∷ rest) ++ replicate zeros 0
    → ends ≡ ends_of (atom ∷ rest) → HasFirst w bytes ends
first_of w bytes ends zeros atom rest wide atoms each kept marked =
    let is : IsAtom atom = All-head IsAtom atom rest each in
    let others : All IsAtom rest = All-tail IsAtom atom rest each in
    let last : ℕ = count_trailing_zeros w ends in
    let end : last + 1 ≡ length atom = rw marked (first_end w atom rest is.some (omega (arith, is.short, wide))) in
    let split : bytes ≡ atom ++ (concat rest ++ replicate zeros 0) =
    kept ∙ append_assoc atom (concat rest) (replicate zeros 0) in
    let behind : drop (last + 1) bytes ≡ concat rest ++ replicate zeros 0 =
    rw split (drop_at atom (concat rest ++ replicate zeros 0) (last + 1) (sym end)) in
    let shifted : ends / 2 ^ last / 2 ≡ ends_of rest =
    div-div-eq-div-mul ends (2 ^ last) 2 ∙ ap (λ (n : ℕ). ends / n) (sym (pow-add 2 last 1) ∙ ap (λ (n : ℕ). 2 ^ n) end)
    ∙ ap (λ (n : ℕ). n / 2 ^ length atom) marked ∙ shift_end atom rest is.some in
    let again : atoms_of (ends / 2 ^ last / 2) (drop (last + 1) bytes) ≡ rest =
    rw (behind, shifted) (atoms_again rest (replicate zeros 0) others) in
    record {
      atom = atom;
      rest = rest;
      atoms = atoms;
      is = is;
      within = omega (arith, end, ap length split, length-append atom (concat rest ++ replicate zeros 0));
      front = rw split (take_at atom (concat rest ++ replicate zeros 0) (last + 1) (sym end));
      left = record {
        each = rw again others;
        zeros = zeros;
        bytes_again = rw again behind;
        ends_again = rw again shifted;
      };
      others = again;
    }

pub first_atom : (w : ℕ) (bytes : List ℕ) (ends : ℕ) → MAX_ATOM_LEN ≤ w → HaveAtoms bytes ends → ¬ (ends ≡ 0)
    → HasFirst w bytes ends
first_atom w bytes ends wide have some = at (atoms_of ends bytes) refl
  where
    at : (atoms : List (List ℕ)) → atoms_of ends bytes ≡ atoms → HasFirst w bytes ends
    at [] e = absurd (some (have.ends_again ∙ ap ends_of e))
    at (atom ∷ rest) e =
        first_of w bytes ends have.zeros atom rest wide e (subst (All IsAtom) e have.each)
        (have.bytes_again ∙ ap (λ (a : List (List ℕ)). concat a ++ replicate have.zeros 0) e)
        (have.ends_again ∙ ap ends_of e)

-- no atoms are left where no bit is set
pub none_left : (bytes : List ℕ) (ends : ℕ) → ends ≡ 0 → atoms_of ends bytes ≡ []
none_left bytes ends e = ap (λ (n : ℕ). atoms_of n bytes) e ∙ no_ends bytes
