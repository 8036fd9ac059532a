-- The right side of the row that was put last, on which nothing stands.
use Rattle.std.proofs.Common.{◌≡◌, ◌+◌, ◌*◌, ◌%◌, ◌<◌, ◌∙◌, ℕ, true, length, Option, Some, refl, sym, ap, subst}
use Rattle.std.proofs.Common.{arith}
use Rattle.std.specs.Prelude.{IsNone, List}
use Rattle.std.proofs.lemmas.Bool.{eq-eqb}
use Rattle.td_base.specs.declared.bit.Bit.TheVariants.{Right}
use Rattle.td_base.specs.Value.{AtomIdValue}
use Rattle.td_path.specs.declared.slot.Slot.TheVariants.{At}
use Rattle.td_doc.specs.Document.{find_row}
use Rattle.td_doc.specs.Slots.{is_empty_slot}
use Rattle.td_identities.specs.declared.identities.Identities.{Identities}
use Rattle.td_list.specs.Items.{first_name, items_after}
use Rattle.td_tree.specs.declared.tree_row.RowState.TheVariants.{Node}
use Rattle.td_tree.specs.Parts.{Parts, state_at, table, doc_rows, IsTree}
use Rattle.td_tree.specs.Places.{IsPlace, IsNewPlace}
use Rattle.td_tree.specs.declared.last.Last.{Last}
use Rattle.td_tree.specs.Last.{IsLast, IsEmptyEnd}
use Rattle.td_tree.specs.Whole.{IsWhole}
use Rattle.td_tree.specs.Reading.{side_end, is_name}
use Rattle.td_tree.proofs.LastRow.{last_row}
use Rattle.td_tree.proofs.NodeParts.{node_at}
use Rattle.td_tree.proofs.Places.{right_place, stops}
use Rattle.td_tree.proofs.SideItems.{side_items, empty_is}
use Rattle.td_tree.proofs.Wholes.{is_row_at}

module _ (p : Parts) (t : IsTree p) (row : ℕ) (known : row < length p.rows) (node : state_at p row ≡ Node)
    (alone : first_name (items_after (3 * row + 1) p.items) ≡ Some (3 * row + 2)) where
  right_empty : is_empty_slot (doc_rows p) (At (table p row).id Right) ≡ true
  right_empty =
      let ends : 3 * row + 2 ≡ side_end row Right = omega arith in
      sym (empty_is p t row Right (side_items p row (node_at p t row known node) Right))
      ∙ ap (is_name (side_end row Right)) alone ∙ eq-eqb (3 * row + 2) (side_end row Right) ends

  right_end : (id : AtomIdValue) → IsNone (find_row id (doc_rows p))
      → IsNewPlace p (At (table p row).id Right) id (Some (3 * row + 2))
  right_end id new =
      let two : (3 * row + 2) % 3 ≡ 2 = omega arith in
      stops p t (At (table p row).id Right) id (Some (3 * row + 2))
      (subst (λ (o : Option ℕ). IsPlace p (At (table p row).id Right) id o) alone (right_place p t row known node id))
      (3 * row + 2) refl new (λ other. absurd (other two))

pub end_of_last : (p : Parts) (identities : Identities) (seen : List ℕ) → IsWhole p identities seen → (last : Last)
    → IsLast p identities last → (atom : AtomIdValue) → last.id ≡ atom → (end : ℕ) → end ≡ 3 * last.row + 2
    → IsEmptyEnd p (At atom Right) end
end_of_last p identities seen w last k atom same end closes =
    let r = last_row p identities seen w last k in
    subst (λ (x : AtomIdValue). IsEmptyEnd p (At x Right) end) (r.2 ∙ same)
    (subst (λ (n : ℕ). IsEmptyEnd p (At (table p last.row).id Right) n) (sym closes) (record {
      rooted = is_row_at p w.tree last.row r.0 r.1 (table p last.row).id refl;
      empty = right_empty p w.tree last.row r.0 k.node k.alone;
      place = right_end p w.tree last.row r.0 k.node k.alone;
    }))
