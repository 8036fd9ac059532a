-- How a `Run` keeps its atoms: their bytes one after another in an array of fixed size, with zeros behind them, and a
-- word whose bit i is set where an atom ends with byte i.
use Rattle.std.specs.Prelude.{◌≡◌, ◌+◌, ◌-◌, ◌*◌, ◌/◌, ◌%◌, ◌^◌, ◌++◌, ◌==◌, ℕ, List, []}
use Rattle.std.specs.Prelude.{◌∷◌, length, replicate, All, if◌then◌else◌}
use Rattle.std.specs.List.{concat}
use Rattle.td_base.specs.Atom.{IsAtom}
use Rattle.td_base.specs.Padded.{padded_with_zeros}
use Rattle.td_base.specs.Run.{IsRun}
use Rattle.td_base.specs.declared.run.TheConstants.{MAX_RUN_LEN}

-- the byte in front of the first atom
abbrev pub before_first : ℕ → List (List ℕ) → List (List ℕ)
before_first b [] = []
before_first b (atom ∷ atoms) = (b ∷ atom) ∷ atoms

-- the bytes, cut behind each byte whose bit is set; what stands behind the last cut is left out
abbrev pub atoms_of : ℕ → List ℕ → List (List ℕ)
atoms_of ends [] = []
atoms_of ends (b ∷ bytes) =
    if ends % 2 == 1 then (b ∷ []) ∷ atoms_of (ends / 2) bytes else before_first b (atoms_of (ends / 2) bytes)

-- the bits where the atoms end
abbrev pub ends_of : List (List ℕ) → ℕ
ends_of [] = 0
ends_of (atom ∷ atoms) = 2 ^ (length atom - 1) * (2 * ends_of atoms + 1)

-- the bytes of the atoms in an array
abbrev pub bytes_of : List (List ℕ) → List ℕ
bytes_of atoms = padded_with_zeros MAX_RUN_LEN (concat atoms)

pub record IsRunParts (bytes : List ℕ) (ends : ℕ) : Type 0 where
  pub run : IsRun (atoms_of ends bytes)
  pub bytes_again : bytes ≡ bytes_of (atoms_of ends bytes)
  pub ends_again : ends ≡ ends_of (atoms_of ends bytes)

-- the bytes begin with atoms that end where the bits say
pub record HaveAtoms (bytes : List ℕ) (ends : ℕ) : Type 0 where
  pub each : All IsAtom (atoms_of ends bytes)
  pub zeros : ℕ
  pub bytes_again : bytes ≡ concat (atoms_of ends bytes) ++ replicate zeros 0
  pub ends_again : ends ≡ ends_of (atoms_of ends bytes)
