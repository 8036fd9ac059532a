-- Runs as lists of atoms.
use Rattle.std.specs.Prelude.{◌≡◌, ◌<◌, ◌≤◌, ℕ, List, [], ◌∷◌, length, take, drop, map, All}
use Rattle.std.specs.List.{concat}
use Rattle.td_base.specs.Atom.{IsAtom}
use Rattle.td_base.specs.declared.run.TheConstants.{MAX_RUN_LEN}
use Rattle.td_base.specs.declared.run.RunFault.{RunFault}
use Rattle.td_base.specs.declared.run.RunFault.TheVariants.{Empty, Long}

-- 1 to 64 atoms with at most 64 bytes together
pub record IsRun (atoms : List (List ℕ)) : Type 0 where
  pub some : 0 < length atoms
  pub short : length (concat atoms) ≤ MAX_RUN_LEN
  pub each : All IsAtom atoms

-- why these atoms are no run: the first of the two causes that holds
abbrev pub IsRunFault : List (List ℕ) → RunFault → Type 0
IsRunFault atoms Empty = atoms ≡ []
IsRunFault atoms (Long len) = (MAX_RUN_LEN < length (concat atoms)) × (len ≡ length (concat atoms))

-- the bytes, cut into pieces of these lengths, one after another
abbrev pub pieces : List ℕ → List ℕ → List (List ℕ)
pieces [] bytes = []
pieces (len ∷ lens) bytes = take len bytes ∷ pieces lens (drop len bytes)

-- the atoms of a text of ASCII, one for each byte
abbrev pub letters : List ℕ → List (List ℕ)
letters text = map (λ (byte : ℕ). byte ∷ []) text
