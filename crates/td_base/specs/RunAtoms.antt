-- Atoms with their identities, and those of an insert.
use Rattle.std.specs.Prelude.{ℕ, suc, List, [], ◌∷◌, map}
use Rattle.td_base.specs.Value.{DotValue, AtomIdValue}

-- an atom with its identity
pub record NamedAtom : Type 0 where
  pub id : AtomIdValue
  pub atom : List ℕ

-- these atoms, with the dot and their places from an offset on as identities
abbrev pub run_atoms_from : DotValue → ℕ → List (List ℕ) → List NamedAtom
run_atoms_from dot offset [] = []
run_atoms_from dot offset (atom ∷ run) =
    record { id = record { dot = dot; offset = offset }; atom = atom } ∷ run_atoms_from dot (suc offset) run

-- the atoms of an insert: those of its run, whose identities are its dot and their places
abbrev pub run_atoms : DotValue → List (List ℕ) → List NamedAtom
run_atoms dot run = run_atoms_from dot 0 run

-- the identities alone
abbrev pub run_ids_from : DotValue → ℕ → List (List ℕ) → List AtomIdValue
run_ids_from dot offset run = map (λ (a : NamedAtom). a.id) (run_atoms_from dot offset run)

abbrev pub run_ids : DotValue → List (List ℕ) → List AtomIdValue
run_ids dot run = run_ids_from dot 0 run
