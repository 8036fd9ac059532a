-- Flatten: the live atoms of a slot become an array in it (Preguiça et al. 2009).
use Rattle.std.specs.Prelude.{List, not, filter, map, Option, Some, None}
use Rattle.td_path.specs.SlotPaths.{slot_contains}
use Rattle.td_path.specs.declared.slot.Slot.{Slot}
use Rattle.td_path.specs.declared.slot_path.SlotPath.{SlotPath}
use Rattle.td_doc.specs.Document.{DocRow, live_rows}
use Rattle.td_doc.specs.Slots.{slot_path, rows_below}
use Rattle.td_doc.specs.Array.{named, array}
use Rattle.td_doc.specs.Insertion.{put_rows}

-- the rows outside a slot
abbrev pub rows_beside : SlotPath → List DocRow → List DocRow
rows_beside slot rows = filter (λ (r : DocRow). not (slot_contains slot r.path)) rows

-- the rows outside stay, and the array of the live rows inside is put in the slot; so the tombstones inside go
abbrev pub flatten_below : Option SlotPath → List DocRow → List DocRow
flatten_below None rows = rows
flatten_below (Some slot) rows =
    put_rows (array slot (map named (live_rows (rows_below rows (Some slot))))) (rows_beside slot rows)

-- the document flattened at a slot whose atom is a row
abbrev pub flatten : Slot → List DocRow → List DocRow
flatten slot rows = flatten_below (slot_path rows slot) rows
