-- The best of some slots.
use Rattle.std.specs.Prelude.{◌≡◌, List, [], false, Option, Some, None}
use Rattle.td_base.specs.Lists.{In}
use Rattle.td_path.specs.declared.slot.Slot.{Slot}
use Rattle.td_doc.specs.Document.{DocRow}
use Rattle.td_idle.specs.declared.idle.Counted.{Counted}
use Rattle.td_idle.specs.Best.{row_count, is_better}

-- one of the slots, with its rows, and none of them is better; none where there are none
abbrev pub IsBestOf : List DocRow → List Slot → Option Counted → Type 0
IsBestOf rows slots None = slots ≡ []
IsBestOf rows slots (Some b) =
    In b.slot slots × (b.rows ≡ row_count rows b.slot) × ((t : Slot) → In t slots → is_better rows t b.slot ≡ false)
