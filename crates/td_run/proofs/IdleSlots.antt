-- The slot of the largest idle part is a value: its atom is a row.
use Rattle.std.proofs.Common.{◌≡◌, ◌<◌, ◌≤◌, ◌&&◌, not, ℕ, List, [], ◌∷◌, Bool, true, false, true≢false}
use Rattle.std.proofs.Common.{if◌then◌else◌, Option, Some, None, filter, fold, map, refl, subst, inl, inr}
use Rattle.std.proofs.lemmas.Bool.{and_parts, not-true}
use Rattle.std.specs.Option.{option_map}
use Rattle.std.specs.Prelude.{IfSome}
use Rattle.td_base.specs.Lists.{In}
use Rattle.td_base.specs.Value.{IsAtomId}
use Rattle.td_base.proofs.Lists.{In-filter}
use Rattle.td_path.specs.Slot.{IsSlot}
use Rattle.td_path.specs.declared.slot.Slot.{Slot}
use Rattle.td_path.specs.declared.slot.Slot.TheVariants.{Root, At}
use Rattle.td_path.specs.declared.slot_path.SlotPath.TheVariants.{Below}
use Rattle.td_doc.specs.Document.{DocRow, row_id, find_row, is_empty_list}
use Rattle.td_doc.specs.Slots.{is_empty_slot, is_known, own_slot, rows_below}
use Rattle.td_doc.proofs.Rules.{found}
use Rattle.td_machine.specs.History.{IsReached}
use Rattle.td_machine.specs.Machine.{Machine}
use Rattle.td_law_replay.proofs.Values.{row_ids_of}
use Rattle.td_idle.specs.Best.{best_slot, is_over_best, kept, row_count}
use Rattle.td_idle.specs.Candidate.{is_candidate, is_held_over}
use Rattle.td_idle.specs.Stable.{stable}
use Rattle.td_idle.specs.declared.idle.Counted.{Counted}
use Rattle.td_world.specs.World.{IsWorld, WorldValue, machine_of, size}
use Rattle.td_world.proofs.Kept.{reached_in}

-- a slot that has rows
slot_is : (rows : List DocRow) → ((r : DocRow) → In r rows → IsAtomId (row_id r)) → (slot : Slot)
    → is_empty_slot rows slot ≡ false → IsSlot slot
slot_is rows valid Root some = tt
slot_is rows valid (At x bit) some = at (find_row x rows) refl some
  where
    at : (o : Option DocRow) → find_row x rows ≡ o
        → is_empty_list (rows_below rows (option_map (λ (r : DocRow). Below r.path bit) o)) ≡ false → IsAtomId x
    at None e has = absurd (true≢false has)
    at (Some r) e has = let f = found x r rows e in subst IsAtomId f.1 (valid r f.0)

-- what is left of the slots, the better kept each time, is one of them
left_among : (rows : List DocRow) (P : Slot → Type 0) (slots : List Slot) (o : Option Counted)
    → IfSome o (λ (b : Counted). P b.slot) → ((slot : Slot) → In slot slots → P slot)
    → IfSome (fold (λ best slot. kept rows slot best) o slots) (λ (b : Counted). P b.slot)
left_among rows P [] o h each = h
left_among rows P (slot ∷ slots) o h each =
    left_among rows P slots (kept rows slot o) (at (is_over_best slot (row_count rows slot) o))
    (λ other i. each other (inr i))
  where
    at : (b : Bool) → IfSome (if b then Some (record { slot = slot; rows = row_count rows slot }) else o)
        (λ (c : Counted). P c.slot)
    at true = each slot (inl refl)
    at false = h

abbrev candidates : Machine → List Slot
candidates m = filter (is_candidate m) (map own_slot m.doc)

pub best_is_slot : (w : WorldValue) → IsWorld w → (site : ℕ) → 0 < site → site ≤ size w
    → IfSome (best_slot (machine_of w site)) IsSlot
best_is_slot w i site some within =
    at (fold (λ best slot. kept m.doc slot best) None (candidates m))
    (left_among m.doc IsSlot (candidates m) None tt valid)
  where
    m : Machine
    m = machine_of w site

    r : IsReached m
    r = reached_in w i site some within

    valid : (slot : Slot) → In slot (candidates m) → IsSlot slot
    valid slot among =
        let is : is_candidate m slot ≡ true = (In-filter (is_candidate m) slot (map own_slot m.doc) among).1 in
        let some = and_parts (not (is_empty_slot m.doc slot)) (is_known m.doc slot (stable m))
        (and_parts (not (is_empty_slot m.doc slot) && is_known m.doc slot (stable m))
        (not (is_held_over m slot)) is).0 in
        slot_is m.doc (row_ids_of m r) slot (not-true (is_empty_slot m.doc slot) some.0)

    at : (o : Option Counted) → IfSome o (λ (b : Counted). IsSlot b.slot)
        → IfSome (option_map (λ (b : Counted). b.slot) o) IsSlot
    at None h = tt
    at (Some b) h = h
