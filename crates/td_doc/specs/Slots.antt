-- Slots, read in one document.
use Rattle.std.specs.Prelude.{ℕ, List, [], ◌∷◌, Bool, false, ◌&&◌, ◌||◌, filter, Option, Some, None}
use Rattle.std.specs.List.{list_all}
use Rattle.std.specs.Option.{option_map, is_some}
use Rattle.td_base.specs.Value.{AtomIdValue}
use Rattle.td_clock.specs.Vector.{vector_has}
use Rattle.td_path.specs.Infix.{Pairs}
use Rattle.td_path.specs.Slot.{same_slot, is_root}
use Rattle.td_path.specs.SlotPaths.{slot_contains}
use Rattle.td_path.specs.declared.slot.Slot.{Slot}
use Rattle.td_path.specs.declared.slot.Slot.TheVariants.{Root, At}
use Rattle.td_path.specs.declared.slot_path.SlotPath.{SlotPath}
use Rattle.td_path.specs.declared.slot_path.SlotPath.TheVariants.{Root as Whole, Below}
use Rattle.td_doc.specs.Document.{DocRow, row_id, find_row, is_empty_list}

-- the slot by the path of its atom, where the atom is a row
abbrev pub slot_path : List DocRow → Slot → Option SlotPath
slot_path rows Root = Some Whole
slot_path rows (At x bit) = option_map (λ (r : DocRow). Below r.path bit) (find_row x rows)

abbrev pub rows_below : List DocRow → Option SlotPath → List DocRow
rows_below rows None = []
rows_below rows (Some slot) = filter (λ (r : DocRow). slot_contains slot r.path) rows

-- the rows that the slot contains: none where its atom is no row
abbrev pub rows_in_slot : List DocRow → Slot → List DocRow
rows_in_slot rows slot = rows_below rows (slot_path rows slot)

abbrev pub is_empty_slot : List DocRow → Slot → Bool
is_empty_slot rows slot = is_empty_list (rows_in_slot rows slot)

-- the slot in which the last of these pairs stands; the slot given is that of the first pair
abbrev pub last_slot : Slot → Pairs → Slot
last_slot slot [] = slot
last_slot slot (p ∷ []) = slot
last_slot slot (p ∷ q ∷ path) = last_slot (At p.1 q.0) (q ∷ path)

-- the slot in which the row stands
abbrev pub own_slot : DocRow → Slot
own_slot r = last_slot Root r.path

-- whether x is a row in the slot
abbrev pub is_within : List DocRow → AtomIdValue → Slot → Bool
is_within rows x slot = is_some (find_row x (rows_in_slot rows slot))

-- whether the slot's atom is a row in s
abbrev pub is_atom_within : List DocRow → Slot → Slot → Bool
is_atom_within rows s Root = false
is_atom_within rows s (At y bit) = is_within rows y s

-- whether the slot s contains the slot t: they are one, or s is the root, or the atom of t is a row in s
abbrev pub contains_slot : List DocRow → Slot → Slot → Bool
contains_slot rows s t = same_slot s t || is_root s || is_atom_within rows s t

-- whether one of the two contains the other
abbrev pub overlaps : List DocRow → Slot → Slot → Bool
overlaps rows s t = contains_slot rows s t || contains_slot rows t s

-- whether the vector has the dot of the row's identity and its delete dots
abbrev pub is_known_row : List ℕ → DocRow → Bool
is_known_row v r = vector_has v (row_id r).dot && list_all (vector_has v) r.deletes

-- whether the vector has all that was done to the rows in the slot
abbrev pub is_known : List DocRow → Slot → List ℕ → Bool
is_known rows slot v = list_all (is_known_row v) (rows_in_slot rows slot)
