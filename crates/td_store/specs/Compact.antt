-- The slot that a compact slot stands for. Compact dots and identities are seen as the dots and identities themselves.
use Rattle.td_path.specs.declared.slot.Slot.{Slot}
use Rattle.td_path.specs.declared.slot.Slot.TheVariants.{Root, At}
use Rattle.td_store.specs.declared.compact_slot.CompactSlot.{CompactSlot}
use Rattle.td_store.specs.declared.compact_slot.CompactSlot.TheVariants.{Root as CompactRoot, At as CompactAt}

abbrev pub slot_of : CompactSlot → Slot
slot_of CompactRoot = Root
slot_of (CompactAt bit atom) = At atom bit
