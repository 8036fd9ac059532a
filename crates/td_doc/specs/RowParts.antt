-- What a `Rows` keeps of its rows: there are fewer than 2^32, and no two have one identity.
use Rattle.std.specs.Prelude.{◌≡◌, ◌⊎◌, ℕ, ◌<◌, ◌≤◌, ◌^◌, List, Bool, filter, length}
use Rattle.td_base.specs.Value.{AtomIdValue}
use Rattle.td_base.specs.Equality.{same_id}
use Rattle.td_doc.specs.Document.{DocRow, has_id}
use Rattle.td_base.specs.RunAtoms.{NamedAtom}

-- how many rows have the identity
abbrev pub rows_with : AtomIdValue → List DocRow → ℕ
rows_with x rows = length (filter (has_id x) rows)

abbrev pub is_named : AtomIdValue → NamedAtom → Bool
is_named x a = same_id a.id x

-- how many atoms have it
abbrev pub atoms_with : AtomIdValue → List NamedAtom → ℕ
atoms_with x atoms = length (filter (is_named x) atoms)

pub record IsRowParts (rows : List DocRow) : Type 0 where
  pub few : length rows < 2 ^ 32
  pub apart : (x : AtomIdValue) → rows_with x rows ≤ 1

-- the identities of the atoms differ from one another and from those of the rows
abbrev pub AreNew : List DocRow → List NamedAtom → Type 0
AreNew rows atoms = (x : AtomIdValue) → (atoms_with x atoms ≤ 1) × ((rows_with x rows ≡ 0) ⊎ (atoms_with x atoms ≡ 0))
