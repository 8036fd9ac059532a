-- Where what is placed after a row, or at the start, is put.
use Rattle.std.specs.Prelude.{◌-◌, ℕ, nat_eq, List, [], ◌∷◌, if◌then◌else◌, Option, Some, None}
use Rattle.td_base.specs.declared.bit.Bit.TheVariants.{Left, Right}
use Rattle.td_base.specs.Value.{AtomIdValue}
use Rattle.td_path.specs.declared.slot.Slot.{Slot}
use Rattle.td_path.specs.declared.slot.Slot.TheVariants.{Root, At}
use Rattle.td_doc.specs.Document.{DocRow, row_id, has_id, live_id_at}
use Rattle.td_doc.specs.Slots.{is_empty_slot}

-- the identity of the first row
abbrev pub first_id : List DocRow → Option AtomIdValue
first_id [] = None
first_id (r ∷ rows) = Some (row_id r)

-- the identity of the row that follows the row p, tombstones included
abbrev pub next_id : AtomIdValue → List DocRow → Option AtomIdValue
next_id p [] = None
next_id p (r ∷ rows) = if has_id p r then first_id rows else next_id p rows

-- the row that follows, or the first row
abbrev pub id_after : List DocRow → Option AtomIdValue → Option AtomIdValue
id_after rows None = first_id rows
id_after rows (Some p) = next_id p rows

-- right before the row that follows; where none follows at the start, the document has no rows. (A row in (p, right)
-- follows p, so in a document one follows wherever that slot is not empty.)
abbrev pub slot_before : Option AtomIdValue → Slot
slot_before None = Root
slot_before (Some f) = At f Left

-- the slot of what is placed after the row p, or at the start
abbrev pub alloc : List DocRow → Option AtomIdValue → Slot
alloc rows None = slot_before (first_id rows)
alloc rows (Some p) = if is_empty_slot rows (At p Right) then At p Right else slot_before (next_id p rows)

-- the live row after which what goes to an index is placed: the one before it, or none at the start
abbrev pub anchor : List DocRow → ℕ → Option AtomIdValue
anchor rows index = if nat_eq index 0 then None else live_id_at rows (index - 1)
