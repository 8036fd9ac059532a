-- Rows that stand next to each other, and what stands in their place afterwards.
use Rattle.std.specs.Prelude.{◌≡◌, List, ◌++◌, Bool, false, ◌||◌, not, map, filter, Option, Some, None}
use Rattle.td_path.specs.SlotPaths.{slot_contains}
use Rattle.td_path.specs.declared.slot.Slot.{Slot}
use Rattle.td_path.specs.declared.slot_path.SlotPath.{SlotPath}
use Rattle.td_doc.specs.Document.{DocRow, is_live, live_rows}
use Rattle.td_doc.specs.Slots.{slot_path}
use Rattle.td_doc.specs.Array.{named}
use Rattle.td_base.specs.RunAtoms.{NamedAtom}

-- the part is a stretch of the rows: its rows stand there next to each other
pub record IsStretch (part rows : List DocRow) : Type 0 where
  pub front : List DocRow
  pub back : List DocRow
  pub is : rows ≡ front ++ part ++ back

-- where the one stretch stood, the other stands afterwards, and the rest is as before
pub record IsReplaced (old new rows after : List DocRow) : Type 0 where
  pub front : List DocRow
  pub back : List DocRow
  pub was : rows ≡ front ++ old ++ back
  pub is : after ≡ front ++ new ++ back

-- the rows are the front, live rows of these atoms in their order, and the back
pub record RunBetween (run : List NamedAtom) (front back rows : List DocRow) : Type 0 where
  pub new : List DocRow
  pub atoms : map named new ≡ run
  pub live : live_rows new ≡ new
  pub is : rows ≡ front ++ new ++ back

-- afterwards live rows of these atoms stand next to each other somewhere in the rows, which are else as they were
pub record IsPutTogether (run : List NamedAtom) (rows after : List DocRow) : Type 0 where
  pub front : List DocRow
  pub back : List DocRow
  pub was : rows ≡ front ++ back
  pub is : RunBetween run front back after

-- the slot contains the row
abbrev pub is_in : Option SlotPath → DocRow → Bool
is_in None r = false
is_in (Some slot) r = slot_contains slot r.path

-- the rows that stay where the slot is flattened: all but its tombstones
abbrev pub kept_rows : List DocRow → Slot → List DocRow
kept_rows rows slot = filter (λ (r : DocRow). is_live r || not (is_in (slot_path rows slot) r)) rows
