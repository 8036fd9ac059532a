-- Changes of a list of atoms.
use Rattle.std.specs.Prelude.{◌<◌, ◌≤◌, ℕ, List, length, insert, remove}
use Rattle.std.specs.List.{insert_slice}
use Rattle.td_op.specs.declared.change.Change.{Change}
use Rattle.td_op.specs.declared.change.Change.TheVariants.{Put, PutRun, Cut}

-- the atoms after the change
abbrev pub changed : Change → List (List ℕ) → List (List ℕ)
changed (Put index atom) atoms = insert atoms index atom
changed (PutRun index run) atoms = insert_slice atoms index run
changed (Cut index) atoms = remove atoms index

-- how many atoms the change puts
abbrev pub put_count : Change → ℕ
put_count (Put index atom) = 1
put_count (PutRun index run) = length run
put_count (Cut index) = 0

-- the index is in range: of what is put up to the end, of what is cut before it
abbrev pub CanChange : Change → List (List ℕ) → Type 0
CanChange (Put index atom) atoms = index ≤ length atoms
CanChange (PutRun index run) atoms = index ≤ length atoms
CanChange (Cut index) atoms = index < length atoms
