-- The best candidate: that with most rows, the first of those in the order of slots.
use Rattle.std.specs.Prelude.{◌≡◌, ℕ, List, Bool, true, false, ◌&&◌, ◌||◌, nat_lt, ◌==◌, length, if◌then◌else◌}
use Rattle.std.specs.Prelude.{Option, Some, None, fold, filter, map}
use Rattle.std.specs.Option.{option_map}
use Rattle.std.specs.Ordering.{ordering_then, is_lt}
use Rattle.std.specs.declared.cmp.Ordering.{Ordering}
use Rattle.std.specs.declared.cmp.Ordering.TheVariants.{Less, Equal, Greater}
use Rattle.td_base.specs.Order.{id_cmp, bit_cmp}
use Rattle.td_path.specs.declared.slot.Slot.{Slot}
use Rattle.td_path.specs.declared.slot.Slot.TheVariants.{Root, At}
use Rattle.td_doc.specs.Document.{DocRow}
use Rattle.td_doc.specs.Slots.{rows_in_slot, own_slot}
use Rattle.td_machine.specs.Machine.{Machine}
use Rattle.td_idle.specs.declared.idle.Counted.{Counted}
use Rattle.td_idle.specs.Candidate.{is_candidate}

-- the root first, then by the atom, left before right
abbrev pub slot_cmp : Slot → Slot → Ordering
slot_cmp Root Root = Equal
slot_cmp Root (At y c) = Less
slot_cmp (At x b) Root = Greater
slot_cmp (At x b) (At y c) = ordering_then (id_cmp x y) (bit_cmp b c)

abbrev pub row_count : List DocRow → Slot → ℕ
row_count rows slot = length (rows_in_slot rows slot)

-- whether a slot with so many rows has more than another, or as many, and stands before it
abbrev pub is_over : Slot → ℕ → Slot → ℕ → Bool
is_over t rows s others = nat_lt others rows || (others == rows && is_lt (slot_cmp t s))

-- whether the slot t is better than the slot s
abbrev pub is_better : List DocRow → Slot → Slot → Bool
is_better rows t s = is_over t (row_count rows t) s (row_count rows s)

-- whether a slot with so many rows is better than the best so far
abbrev pub is_over_best : Slot → ℕ → Option Counted → Bool
is_over_best slot rows None = true
is_over_best slot rows (Some b) = is_over slot rows b.slot b.rows

-- the better of the slot and the best so far
abbrev pub kept : List DocRow → Slot → Option Counted → Option Counted
kept rows slot best =
    if is_over_best slot (row_count rows slot) best then Some (record { slot = slot; rows = row_count rows slot })
    else best

-- the best of the candidates: a slot that has rows is the own slot of one of them
abbrev pub best_slot : Machine → Option Slot
best_slot m =
    option_map (λ (b : Counted). b.slot)
    (fold (λ best slot. kept m.doc slot best) None (filter (is_candidate m) (map own_slot m.doc)))

-- the slot is a candidate with so many rows, and no candidate is better
pub record IsBest (m : Machine) (slot : Slot) (rows : ℕ) : Type 0 where
  pub candidate : is_candidate m slot ≡ true
  pub count : rows ≡ row_count m.doc slot
  pub best : (t : Slot) → is_candidate m t ≡ true → is_better m.doc t slot ≡ false
