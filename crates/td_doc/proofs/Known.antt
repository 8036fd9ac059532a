-- A vector that covers one which has all that was done to the rows has all that was done to those in any slot.
use Rattle.std.proofs.Common.{◌≡◌, ℕ, List, true, refl}
use Rattle.std.proofs.lemmas.Bool.{and_parts, and_from}
use Rattle.std.specs.Prelude.{IsTrue, Option, Some, None}
use Rattle.std.specs.List.{list_all}
use Rattle.td_base.specs.Lists.{In}
use Rattle.td_base.proofs.Lists.{In-filter, filter_In}
use Rattle.td_base.proofs.Searches.{all_pass, each_passes}
use Rattle.td_clock.specs.Vector.{vector_has, vector_covers}
use Rattle.td_clock.proofs.VectorLemmas.{covered_dots}
use Rattle.td_path.specs.SlotPaths.{slot_contains}
use Rattle.td_path.specs.declared.slot.Slot.{Slot}
use Rattle.td_path.specs.declared.slot.Slot.TheVariants.{Root}
use Rattle.td_path.specs.declared.slot_path.SlotPath.{SlotPath}
use Rattle.td_path.specs.declared.slot_path.SlotPath.TheVariants.{Root as Whole}
use Rattle.td_doc.specs.Document.{DocRow, row_id}
use Rattle.td_doc.specs.Slots.{slot_path, rows_below, rows_in_slot, is_known_row, is_known}

module _ (v have : List ℕ) (covers : IsTrue (vector_covers v have)) where
  row_known : (r : DocRow) → is_known_row have r ≡ true → is_known_row v r ≡ true
  row_known r h =
      let parts = and_parts (vector_has have (row_id r).dot) (list_all (vector_has have) r.deletes) h in
      and_from (vector_has v (row_id r).dot) (list_all (vector_has v) r.deletes)
      (covered_dots v have covers (row_id r).dot parts.0)
      (all_pass (vector_has v) r.deletes
      (λ d i. covered_dots v have covers d (each_passes (vector_has have) r.deletes parts.1 d i)))

  -- a row of a slot is a row of the root
  below_root : (rows : List DocRow) (o : Option SlotPath) (r : DocRow) → In r (rows_below rows o)
      → In r (rows_in_slot rows Root)
  below_root rows None r i = absurd i
  below_root rows (Some s) r i =
      filter_In (λ (q : DocRow). slot_contains Whole q.path) r rows
      (In-filter (λ (q : DocRow). slot_contains s q.path) r rows i).0 refl

  pub known_by_covering : (rows : List DocRow) (slot : Slot) → IsTrue (is_known rows Root have)
      → is_known rows slot v ≡ true
  known_by_covering rows slot h =
      all_pass (is_known_row v) (rows_in_slot rows slot)
      (λ r i. row_known r
      (each_passes (is_known_row have) (rows_in_slot rows Root) h r (below_root rows (slot_path rows slot) r i)))
