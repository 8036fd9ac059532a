-- Candidates: the slots with rows of which every site is known to have all that was done to them, and that no hold
-- overlaps.
use Rattle.std.specs.Prelude.{Bool, ◌&&◌, not}
use Rattle.std.specs.List.{list_any}
use Rattle.td_path.specs.declared.slot.Slot.{Slot}
use Rattle.td_doc.specs.Slots.{is_empty_slot, is_known, overlaps}
use Rattle.td_machine.specs.Hold.{Hold}
use Rattle.td_machine.specs.Machine.{Machine}
use Rattle.td_idle.specs.Stable.{stable}

-- whether a held slot overlaps the slot
abbrev pub is_held_over : Machine → Slot → Bool
is_held_over m slot = list_any (λ (h : Hold). overlaps m.doc h.slot slot) m.holds

abbrev pub is_candidate : Machine → Slot → Bool
is_candidate m slot = not (is_empty_slot m.doc slot) && is_known m.doc slot (stable m) && not (is_held_over m slot)
