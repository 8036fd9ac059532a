-- What a row itself keeps of its atom: a short one whole, and of a longer one the number by which it is kept beside
-- the rows.
use Rattle.std.specs.Prelude.{◌≡◌, ◌<◌, ◌≤◌, ◌+◌, ◌-◌, ◌++◌, zero, suc, ℕ, List, [], ◌∷◌, length, take, get_or}
use Rattle.std.specs.Int.{w32, from_le_bytes}
use Rattle.td_base.specs.Atom.{IsAtom}
use Rattle.td_tree.specs.declared.row_atom.TheConstants.{IN_ROW}

pub data RowAtomValue : Type 0 where
  InRow : List ℕ → RowAtomValue
  Beside : ℕ → RowAtomValue

-- the number of one that is kept beside them where the length is 0
abbrev pub row_atom : ℕ → List ℕ → RowAtomValue
row_atom zero bytes = Beside (from_le_bytes w32 bytes)
row_atom (suc n) bytes = InRow (take (suc n) bytes)

abbrev pub IsRowAtom : ℕ → List ℕ → Type 0
IsRowAtom zero bytes = Unit {0}
IsRowAtom (suc n) bytes = (suc n ≤ IN_ROW) × IsAtom (take (suc n) bytes)

-- the atom, with those that are kept beside the rows, by numbers from the first on
abbrev pub atom_from : ℕ → List (List ℕ) → RowAtomValue → List ℕ
atom_from first long (InRow bytes) = bytes
atom_from first long (Beside number) = get_or long (number - first) []

-- a number is one of so many
abbrev pub IsFrom : ℕ → ℕ → RowAtomValue → Type 0
IsFrom first n (InRow bytes) = Unit {0}
IsFrom first n (Beside number) = (first ≤ number) × (number < first + n)

-- an atom put in its row, or behind those that are kept beside the rows, with what is kept beside them then
abbrev pub IsPlaced : ℕ → List (List ℕ) → List (List ℕ) → List ℕ → RowAtomValue → Type 0
IsPlaced first long now atom (InRow bytes) = (now ≡ long) × (bytes ≡ atom)
IsPlaced first long now atom (Beside number) = (now ≡ long ++ atom ∷ []) × (number ≡ first + length long)
