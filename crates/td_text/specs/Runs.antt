-- The runs in which a text is pasted: each has as many of its clusters as fit.
use Rattle.std.specs.Prelude.{◌-◌, ℕ, List, [], ◌∷◌, ◌++◌, length, nat_lt, if◌then◌else◌}
use Rattle.td_base.specs.declared.run.TheConstants.{MAX_RUN_LEN}

-- a run, where it has any atoms
abbrev pub one_run : List (List ℕ) → List (List (List ℕ))
one_run [] = []
one_run (atom ∷ atoms) = (atom ∷ atoms) ∷ []

-- the atoms behind those of a run that has room for so many bytes more
abbrev pub runs_on : List (List ℕ) → ℕ → List (List ℕ) → List (List (List ℕ))
runs_on run room [] = one_run run
runs_on run room (atom ∷ atoms) =
    if nat_lt room (length atom) then run ∷ runs_on (atom ∷ []) (MAX_RUN_LEN - length atom) atoms
    else runs_on (run ++ atom ∷ []) (room - length atom) atoms

abbrev pub runs_of : List (List ℕ) → List (List (List ℕ))
runs_of atoms = runs_on [] MAX_RUN_LEN atoms
