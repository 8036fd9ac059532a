-- Slots by the path of their atom: what they contain, and which overlap.
use Rattle.std.specs.Prelude.{[], ◌∷◌, ◌++◌, Bool, true, false, ◌&&◌, ◌||◌}
use Rattle.std.specs.Ordering.{is_eq}
use Rattle.td_base.specs.declared.bit.Bit.{Bit}
use Rattle.td_base.specs.declared.bit.Bit.TheVariants.{Right}
use Rattle.td_base.specs.Value.{AtomIdValue}
use Rattle.td_base.specs.Equality.{same_bit}
use Rattle.td_path.specs.Infix.{Pairs, same_pair, path_cmp}
use Rattle.td_path.specs.declared.slot_path.SlotPath.{SlotPath}
use Rattle.td_path.specs.declared.slot_path.SlotPath.TheVariants.{Root as Whole, Below}

-- the path begins with the front, and goes on by the bit
abbrev pub goes_on : Pairs → Bit → Pairs → Bool
goes_on front bit [] = false
goes_on [] bit (p ∷ path) = same_bit p.0 bit
goes_on (q ∷ front) bit (p ∷ path) = same_pair q p && goes_on front bit path

-- the slot contains the row with this path
abbrev pub slot_contains : SlotPath → Pairs → Bool
slot_contains Whole path = true
slot_contains (Below front bit) path = goes_on front bit path

-- the first slot contains the second: they are one, or the atom of the second is in the first
abbrev pub slot_contains_slot : SlotPath → SlotPath → Bool
slot_contains_slot Whole t = true
slot_contains_slot (Below front bit) Whole = false
slot_contains_slot (Below front bit) (Below path side) =
    is_eq (path_cmp front path) && same_bit bit side || goes_on front bit path

-- one of the two contains the other
abbrev pub slots_overlap : SlotPath → SlotPath → Bool
slots_overlap s t = slot_contains_slot s t || slot_contains_slot t s

-- the path of an atom that stands right in the slot
abbrev pub path_in : SlotPath → AtomIdValue → Pairs
path_in Whole id = (Right, id) ∷ []
path_in (Below front bit) id = front ++ (bit, id) ∷ []
