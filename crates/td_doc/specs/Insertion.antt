-- An atom, or a run of atoms, put in a slot.
use Rattle.std.specs.Prelude.{◌≡◌, ◌++◌, ℕ, List, [], ◌∷◌, if◌then◌else◌, Option, Some, None}
use Rattle.std.specs.Ordering.{is_lt}
use Rattle.td_base.specs.Value.{DotValue, AtomIdValue}
use Rattle.td_path.specs.Infix.{path_cmp}
use Rattle.td_path.specs.declared.slot.Slot.{Slot}
use Rattle.td_path.specs.declared.slot_path.SlotPath.{SlotPath}
use Rattle.td_doc.specs.Document.{DocRow, row_id}
use Rattle.td_doc.specs.Slots.{slot_path}
use Rattle.td_doc.specs.Array.{row_in, array}
use Rattle.td_base.specs.RunAtoms.{NamedAtom, run_atoms}

-- the row put where the infix order has it
abbrev pub put_row : DocRow → List DocRow → List DocRow
put_row n [] = n ∷ []
put_row n (r ∷ rows) = if is_lt (path_cmp n.path r.path) then n ∷ r ∷ rows else r ∷ put_row n rows

-- each of the new rows put where the infix order has it
abbrev pub put_rows : List DocRow → List DocRow → List DocRow
put_rows [] rows = rows
put_rows (n ∷ new) rows = put_rows new (put_row n rows)

abbrev pub put_below : Option SlotPath → NamedAtom → List DocRow → List DocRow
put_below None a rows = rows
put_below (Some slot) a rows = put_row (row_in slot a) rows

-- the document with one more atom in a slot whose atom is a row
abbrev pub insert_atom : Slot → AtomIdValue → List ℕ → List DocRow → List DocRow
insert_atom slot id atom rows = put_below (slot_path rows slot) (record { id = id; atom = atom }) rows

abbrev pub put_array_below : Option SlotPath → List NamedAtom → List DocRow → List DocRow
put_array_below None atoms rows = rows
put_array_below (Some slot) atoms rows = put_rows (array slot atoms) rows

-- the document with the array of an insert's run in a slot whose atom is a row
abbrev pub insert_run : Slot → DotValue → List (List ℕ) → List DocRow → List DocRow
insert_run slot dot run rows = put_array_below (slot_path rows slot) (run_atoms dot run) rows

-- the live row of an atom with this identity
pub record IsNew (id : AtomIdValue) (atom : List ℕ) (n : DocRow) : Type 0 where
  pub named : row_id n ≡ id
  pub shows : n.atom ≡ atom
  pub live : n.deletes ≡ []

-- the rows are the front, the new row and the back
pub record ComesBetween (id : AtomIdValue) (atom : List ℕ) (front back rows : List DocRow) : Type 0 where
  pub row : DocRow
  pub new : IsNew id atom row
  pub is : rows ≡ front ++ row ∷ back
