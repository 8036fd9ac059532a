-- The rows that a flatten leaves have room where the old ones were.
use Rattle.std.proofs.Common.{◌+◌, ◌≤◌, List, Bool, not, length, map, Some, refl, ◌∙◌, arith}
use Rattle.std.proofs.lemmas.List.{length-map}
use Rattle.std.proofs.lemmas.List.Filters.{length-filter_both}
use Rattle.td_path.specs.SlotPaths.{slot_contains}
use Rattle.td_path.specs.declared.slot_path.SlotPath.{SlotPath}
use Rattle.td_doc.specs.Document.{DocRow, is_live, live_rows}
use Rattle.td_doc.specs.Slots.{rows_below}
use Rattle.td_doc.specs.Array.{named, array}
use Rattle.td_doc.specs.Flatten.{rows_beside}
use Rattle.td_doc.proofs.ArrayPlaces.{length_array}

abbrev inside : SlotPath → DocRow → Bool
inside slot r = slot_contains slot r.path

pub fits : (slot : SlotPath) (rows : List DocRow)
    → length (rows_beside slot rows) + length (array slot
    (map named (live_rows (rows_below rows (Some slot))))) ≤ length rows
fits slot rows =
    let below = rows_below rows (Some slot) in
    let both = length-filter_both (inside slot) (λ (r : DocRow). not (inside slot r)) (λ r. refl) rows in
    let made = length_array slot (map named (live_rows below)) ∙ length-map (live_rows below) named in
    let live = length-filter_both is_live (λ (r : DocRow). not (is_live r)) (λ r. refl) below in
    omega (arith, made, both, live)
