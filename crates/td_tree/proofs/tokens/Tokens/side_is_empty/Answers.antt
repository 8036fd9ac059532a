use Rattle.std.proofs.Common.{◌≡◌, ◌∙◌, ℕ, map, sym, subst, ap}
use Rattle.td_path.specs.declared.slot.Slot.TheVariants.{At}
use Rattle.td_doc.specs.Slots.{rows_in_slot}
use Rattle.td_list.specs.Items.{IsItem, first_name, items_after}
use Rattle.td_brackets.specs.RowNumbers.{entry_of}
use Rattle.td_tree.specs.declared.tree_row.RowState.TheVariants.{Node}
use Rattle.td_tree.specs.Parts.{state_at, table, array_at, part, doc_rows}
use Rattle.td_tree.specs.Reading.{is_name}
use Rattle.td_tree.proofs.RowPlaces.{is_node}
use Rattle.td_tree.proofs.NodeParts.{node_at}
use Rattle.td_tree.proofs.SideItems.{side_items, start_there, empty_is, empty_same}
use Rattle.td_tree.proofs.LeafSides.{array_place, empty_part}
use Rattle.td_tree.proofs.tokens.Tokens.side_is_empty.Goals as goal

pub is_next-requires : goal.is_next-requires
is_next-requires c =
    let p = c.args.self.now in
    let t = c.requires.tree in
    let node : state_at p c.args.row ≡ Node = is_node (state_at p c.args.row)
    (λ a i e. c.in_default.not-InArray a i (c.state.ensures ∙ e)) c.requires.stands in
    let s = side_items p c.args.row (node_at p t c.args.row c.requires.row node) c.args.bit in
    subst (λ (x : ℕ). IsItem x p.items) (sym c.side_start.ensures) (start_there p t c.args.row c.args.bit s)

pub returns-in-InArray : goal.returns-in-InArray
returns-in-InArray c =
    let p = c.args.self.now in
    let e = c.leaf_side.ensures in
    let at = array_place p c.requires.tree c.args.row c.in-InArray.array c.in-InArray.index c.requires.row
    (sym c.in-InArray.ensures) in
    empty_part (array_at p c.in-InArray.array) c.leaf_side.result.from c.leaf_side.result.len e.within
    ∙ sym (empty_same (table p) (rows_in_slot (doc_rows p) (At (table p c.args.row).id c.args.bit))
    (part (array_at p c.in-InArray.array) c.leaf_side.result.from c.leaf_side.result.len)
    (ap (λ (x : ℕ). map entry_of (rows_in_slot (doc_rows p) (At (table p x).id c.args.bit))) (sym at.2) ∙ e.rows))

pub returns-in_default : goal.returns-in_default
returns-in_default c =
    let p = c.args.self.now in
    let t = c.requires.tree in
    let node : state_at p c.args.row ≡ Node = is_node (state_at p c.args.row)
    (λ a i e. c.in_default.not-InArray a i (c.state.ensures ∙ e)) c.requires.stands in
    let s = side_items p c.args.row (node_at p t c.args.row c.requires.row node) c.args.bit in
    c.is_next.ensures ∙ (λ i. is_name (c.side_end.ensures i)
    (first_name (items_after (c.side_start.ensures i) p.items))) ∙ empty_is p t c.args.row c.args.bit s
