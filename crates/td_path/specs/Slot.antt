-- Slots by the identity of their atom: which are in range, and the atom that one names.
use Rattle.std.specs.Prelude.{ℕ, Bool, true, false, ◌&&◌, Option, Some, None}
use Rattle.std.specs.Option.{option_map}
use Rattle.td_base.specs.Value.{AtomIdValue, IsAtomId}
use Rattle.td_base.specs.Equality.{same_bit, same_id}
use Rattle.td_path.specs.declared.slot.Slot.{Slot}
use Rattle.td_path.specs.declared.slot.Slot.TheVariants.{Root, At}

abbrev pub IsSlot : Slot → Type 0
IsSlot Root = Unit {0}
IsSlot (At atom bit) = IsAtomId atom

-- equality, part by part, as `==` computes it
abbrev pub same_slot : Slot → Slot → Bool
same_slot Root Root = true
same_slot Root (At y c) = false
same_slot (At x b) Root = false
same_slot (At x b) (At y c) = same_id x y && same_bit b c

abbrev pub is_root : Slot → Bool
is_root Root = true
is_root (At x bit) = false

-- the atom that a slot names
abbrev pub slot_atom : Slot → Option AtomIdValue
slot_atom Root = None
slot_atom (At x bit) = Some x

-- the site of that atom
abbrev pub slot_site : Slot → Option ℕ
slot_site slot = option_map (λ (x : AtomIdValue). x.dot.site) (slot_atom slot)
