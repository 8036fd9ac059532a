-- The atoms that are left of a list which is walked.
use Rattle.std.proofs.Common.{◌≡◌, ◌<◌, ◌≤◌, ◌+◌, ◌-◌, ◌∷◌, ℕ, List, length, map, sum, take, drop}
use Rattle.std.proofs.Common.{get_or, arith, ap, sym, subst, ◌∙◌, length-drop, drop-drop}
use Rattle.std.proofs.lemmas.List.{drop_more, take_all}
use Rattle.td_base.specs.Atom.{IsAtom}
use Rattle.td_base.specs.Run.{IsRun, pieces}
use Rattle.td_text.specs.AtomListParts.{IsAtomListParts, IsOwnedParts}
use Rattle.td_text.specs.Runs.{runs_of}
use Rattle.td_text.proofs.AtomListLemmas.{first_part}
use Rattle.td_text.proofs.RunLemmas.{first_run_is}

-- what a slice has from a place on
pub from_place : (slice all : List ℕ) (k : ℕ) → slice ≡ all → take (length slice - k) (drop k slice) ≡ drop k all
from_place slice all k same = take_all (length slice - k) (drop k slice) (omega (arith, length-drop k slice))
    ∙ ap (drop k) same

-- so many bytes are the next atom
pub record IsNextAtom (lens bytes : List ℕ) (count len size : ℕ) : Type 0 where
  pub within : size ≤ length (drop len bytes)
  pub is : IsAtom (take size (drop len bytes))
  pub others : IsOwnedParts lens bytes (count + 1) (len + size)
  pub atoms : pieces (drop count lens) (drop len bytes)
      ≡ take size (drop len bytes) ∷ pieces (drop (count + 1) lens) (drop (len + size) bytes)

pub next_atom_is : (lens bytes : List ℕ) (count len size : ℕ) → IsOwnedParts lens bytes count len
    → count < length lens → size ≡ get_or lens count size
    → IsNextAtom lens bytes count len size
next_atom_is lens bytes count len size parts lt read =
    let others : List ℕ = drop (count + 1) lens in
    let split : drop count lens ≡ size ∷ others = drop_more lens count size lt
    ∙ ap (λ (n : ℕ). n ∷ others) (sym read) in
    let first = first_part size others (drop len bytes)
    (subst (λ (ls : List ℕ). IsAtomListParts ls (drop len bytes)) split parts.left) in
    let behind : drop size (drop len bytes) ≡ drop (len + size) bytes = drop-drop size len bytes in
    record {
      within = first.within;
      is = first.is;
      others = record {
        within = omega (arith, lt);
        in_bytes = omega (arith, first.within, length-drop len bytes, parts.in_bytes);
        left = subst (IsAtomListParts others) behind first.others;
      };
      atoms = ap (λ (ls : List ℕ). pieces ls (drop len bytes)) split
          ∙ ap (λ (bs : List ℕ). take size (drop len bytes) ∷ pieces others bs) behind;
    }

-- so many atoms, which have so many bytes, are the next run
pub record IsNextRun (lens bytes : List ℕ) (count len more size : ℕ) : Type 0 where
  pub within : size ≤ length (drop len bytes)
  pub whole : sum (take more (drop count lens)) ≡ length (take size (drop len bytes))
  pub run : IsRun (pieces (take more (drop count lens)) (take size (drop len bytes)))
  pub others : IsOwnedParts lens bytes (count + more) (len + size)
  pub runs : runs_of (pieces (drop count lens) (drop len bytes))
      ≡ pieces (take more (drop count lens)) (take size (drop len bytes))
      ∷ runs_of (pieces (drop (count + more) lens) (drop (len + size) bytes))

pub next_run_is : (lens bytes : List ℕ) (count len more size : ℕ) → IsOwnedParts lens bytes count len
    → more ≤ length (drop count lens) → size ≡ sum (take more (drop count lens))
    → ((atoms : List (List ℕ)) → map length atoms ≡ drop count lens → runs_of atoms
    ≡ take more atoms ∷ runs_of (drop more atoms))
    → IsNextRun lens bytes count len more size
next_run_is lens bytes count len more size parts fits bytes_are first_is =
    let first = first_run_is (drop count lens) (drop len bytes) more size parts.left bytes_are first_is in
    let lens_behind : drop more (drop count lens) ≡ drop (count + more) lens = drop-drop more count lens in
    let behind : drop size (drop len bytes) ≡ drop (len + size) bytes = drop-drop size len bytes in
    record {
      within = first.within;
      whole = first.whole;
      run = first.run;
      others = record {
        within = omega (arith, fits, length-drop count lens, parts.within);
        in_bytes = omega (arith, first.within, length-drop len bytes, parts.in_bytes);
        left = subst (λ (ls : List ℕ). IsAtomListParts ls (drop (len + size) bytes)) lens_behind
            (subst (IsAtomListParts (drop more (drop count lens))) behind first.left);
      };
      runs = first.runs
          ∙ (λ i. pieces (take more (drop count lens)) (take size (drop len bytes)) ∷ runs_of
          (pieces (lens_behind i) (behind i)));
    }

-- the same, where the lengths that are left stand in a list of their own
pub next_run_of : (lens bytes left : List ℕ) (count len more size : ℕ) → IsOwnedParts lens bytes count len → left
    ≡ drop count lens
    → more ≤ length left → size ≡ sum (take more left)
    → ((atoms : List (List ℕ)) → map length atoms ≡ left → runs_of atoms ≡ take more atoms ∷ runs_of (drop more atoms))
    → IsNextRun lens bytes count len more size
next_run_of lens bytes left count len more size parts same fits bytes_are first_is =
    next_run_is lens bytes count len more size parts (omega (arith, fits, ap length same))
    (bytes_are ∙ ap (λ (ls : List ℕ). sum (take more ls)) same) (λ atoms lengths. first_is atoms (lengths ∙ sym same))
