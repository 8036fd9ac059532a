-- The subtree of a row: the row and all that hangs below it; and how far below its slot a row hangs.
use Rattle.std.specs.Prelude.{ℕ, ◌+◌, List, [], ◌∷◌, length, drop, map, Bool, true}
use Rattle.std.specs.Prelude.{false, ◌&&◌, filter, Option, Some, None}
use Rattle.std.specs.Option.{is_some}
use Rattle.td_base.specs.Value.{AtomIdValue}
use Rattle.td_path.specs.Infix.{Pair, Pairs, same_pair}
use Rattle.td_path.specs.Shape.{Bits}
use Rattle.td_path.specs.declared.slot.Slot.{Slot}
use Rattle.td_path.specs.declared.slot.Slot.TheVariants.{Root, At}
use Rattle.td_path.specs.declared.slot_path.SlotPath.{SlotPath}
use Rattle.td_path.specs.declared.slot_path.SlotPath.TheVariants.{Root as Whole, Below}
use Rattle.td_doc.specs.Document.{DocRow, find_row}

-- the path begins with that of the node
abbrev pub begins : Pairs → Pairs → Bool
begins [] path = true
begins (q ∷ node) [] = false
begins (q ∷ node) (p ∷ path) = same_pair q p && begins node path

abbrev pub rows_at : List DocRow → Option DocRow → List DocRow
rows_at rows None = []
rows_at rows (Some b) = filter (λ (r : DocRow). begins b.path r.path) rows

-- the rows in the subtree of the row b
abbrev pub rows_under : List DocRow → AtomIdValue → List DocRow
rows_under rows b = rows_at rows (find_row b rows)

-- whether x is a row in the subtree of the row b
abbrev pub is_under : List DocRow → AtomIdValue → AtomIdValue → Bool
is_under rows b x = is_some (find_row x (rows_under rows b))

-- whether the slot lies in the subtree of the row b
abbrev pub is_slot_under : List DocRow → AtomIdValue → Slot → Bool
is_slot_under rows b Root = false
is_slot_under rows b (At x bit) = is_under rows b x

-- how many pairs the path of the slot's atom has
abbrev pub slot_depth : SlotPath → ℕ
slot_depth Whole = 0
slot_depth (Below path bit) = length path

-- the bits of a path in the slot, from the node that stands right in the slot down
abbrev pub bits_in : SlotPath → Pairs → Bits
bits_in slot path = map (λ (p : Pair). p.0) (drop (slot_depth slot + 1) path)
