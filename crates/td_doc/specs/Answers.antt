-- What the calls of a document answer.
use Rattle.std.specs.Prelude.{◌≡◌, ◌≢◌, ℕ, List, [], ◌∷◌, ◌+◌, Bool, true, false}
use Rattle.std.specs.Prelude.{if◌then◌else◌, length, Option, Some, None, IsNone, IsTrue}
use Rattle.std.specs.Option.{option_map, is_some}
use Rattle.std.specs.List.{AllByRecursion}
use Rattle.std.specs.Ordering.{is_lt}
use Rattle.td_base.specs.Value.{DotValue, AtomIdValue}
use Rattle.td_path.specs.Infix.{path_cmp}
use Rattle.td_path.specs.Slot.{slot_atom}
use Rattle.td_path.specs.declared.slot.Slot.{Slot}
use Rattle.td_path.specs.declared.slot.Slot.TheVariants.{Root, At}
use Rattle.td_doc.specs.declared.doc.Row.{Row}
use Rattle.td_doc.specs.declared.doc.DocFault.{DocFault}
use Rattle.td_doc.specs.declared.doc.DocFault.TheVariants.{Gone, Memory}
use Rattle.td_doc.specs.Document.{DocRow, row_id, has_id, is_live, find_row}
use Rattle.td_doc.specs.Slots.{own_slot}

-- whether the atom is a row
abbrev pub is_row : List DocRow → AtomIdValue → Bool
is_row rows x = is_some (find_row x rows)

abbrev pub IsRow : List DocRow → AtomIdValue → Type 0
IsRow rows x = IsTrue (is_row rows x)

abbrev pub is_live_found : Option DocRow → Bool
is_live_found None = false
is_live_found (Some r) = is_live r

-- whether the atom is a live row
abbrev pub is_live_id : List DocRow → AtomIdValue → Bool
is_live_id rows x = is_live_found (find_row x rows)

-- whether the slot is the root, or its atom is a row
abbrev pub is_rooted : List DocRow → Slot → Bool
is_rooted rows Root = true
is_rooted rows (At x bit) = is_row rows x

-- no row is of the insert with this dot
abbrev pub IsFresh : List DocRow → DotValue → Type 0
IsFresh rows dot = AllByRecursion (λ (r : DocRow). (row_id r).dot ≢ dot) rows

-- why a change in the slot is refused: its atom is no row
abbrev pub IsSlotFault : List DocRow → Slot → DocFault → Type 0
IsSlotFault rows slot (Gone id) = (slot_atom slot ≡ Some id) × IsNone (find_row id rows)
IsSlotFault rows slot Memory = Unit {0}

-- why a delete is refused: the atom is no row
abbrev pub IsAtomFault : List DocRow → AtomIdValue → DocFault → Type 0
IsAtomFault rows x (Gone id) = (id ≡ x) × IsNone (find_row x rows)
IsAtomFault rows x Memory = Unit {0}

abbrev pub is_found_before : Option DocRow → Option DocRow → Bool
is_found_before None s = false
is_found_before (Some r) None = false
is_found_before (Some r) (Some s) = is_lt (path_cmp r.path s.path)

-- whether both are rows, and x stands before y in infix order
abbrev pub stands_before : List DocRow → AtomIdValue → AtomIdValue → Bool
stands_before rows x y = is_found_before (find_row x rows) (find_row y rows)

-- how many live rows stand before the row x
abbrev pub live_before : AtomIdValue → List DocRow → ℕ
live_before x [] = 0
live_before x (r ∷ rows) = if has_id x r then 0 else (if is_live r then 1 else 0) + live_before x rows

-- what is told of the row x
abbrev pub row_told : List DocRow → AtomIdValue → Option Row
row_told rows x =
    option_map
    (λ (r : DocRow). record {
      id = row_id r;
      slot = own_slot r;
      atom = r.atom;
      deletes = length r.deletes;
      index = live_before x rows;
    })
    (find_row x rows)
