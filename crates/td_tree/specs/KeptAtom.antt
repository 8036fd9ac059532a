-- How an atom is kept.
use Rattle.std.specs.Prelude.{◌≡◌, ◌<◌, ◌≤◌, ℕ, List, length, take}
use Rattle.td_base.specs.Atom.{IsAtom}
use Rattle.td_tree.specs.declared.kept_atom.TheConstants.{SHORT}
use Rattle.td_tree.specs.declared.kept_atom.Kept.{Kept}
use Rattle.td_tree.specs.declared.kept_atom.Kept.TheVariants.{Short, Long}

abbrev pub bytes_of : Kept → List ℕ
bytes_of (Short len bytes) = take len bytes
bytes_of (Long atom) = atom.value

abbrev pub IsKept : Kept → Type 0
IsKept (Short len bytes) = (len ≤ SHORT) × IsAtom (take len bytes) × (length (take len bytes) ≡ len)
IsKept (Long atom) = (SHORT < length atom.value) × IsAtom atom.value
