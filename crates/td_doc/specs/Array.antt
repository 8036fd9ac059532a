-- Arrays: how a list of atoms becomes a subtree (the "explode" of Preguiça et al. 2009).
use Rattle.std.specs.Prelude.{ℕ, zero, suc, ◌/◌, List, [], ◌∷◌, ◌++◌, length, take, drop}
use Rattle.td_base.specs.declared.bit.Bit.TheVariants.{Left, Right}
use Rattle.td_base.specs.RunAtoms.{NamedAtom}
use Rattle.td_path.specs.SlotPaths.{path_in}
use Rattle.td_path.specs.declared.slot_path.SlotPath.{SlotPath}
use Rattle.td_path.specs.declared.slot_path.SlotPath.TheVariants.{Below}
use Rattle.td_doc.specs.Document.{DocRow, row_id}

-- the atom of a row, with its identity
abbrev pub named : DocRow → NamedAtom
named r = record { id = row_id r; atom = r.atom }

-- the live row of an atom that stands right in the slot
abbrev pub row_in : SlotPath → NamedAtom → DocRow
row_in slot a = record { path = path_in slot a.id; atom = a.atom; deletes = [] }

-- the first of the rest stands in the slot, what is before it in its left slot and what is after it in its right slot
abbrev pub around : (SlotPath → List NamedAtom → List DocRow) → SlotPath → List NamedAtom → List NamedAtom → List DocRow
around array slot before [] = []
around array slot before (middle ∷ after) =
    array (Below (path_in slot middle.id) Left) before
    ++ row_in slot middle ∷ array (Below (path_in slot middle.id) Right) after

-- the rows of these atoms in the slot, halved at each node. The number is at least how many they are
abbrev pub array_upto : ℕ → SlotPath → List NamedAtom → List DocRow
array_upto zero slot atoms = []
array_upto (suc n) slot atoms =
    around (array_upto n) slot (take (length atoms / 2) atoms) (drop (length atoms / 2) atoms)

abbrev pub array : SlotPath → List NamedAtom → List DocRow
array slot atoms = array_upto (length atoms) slot atoms
