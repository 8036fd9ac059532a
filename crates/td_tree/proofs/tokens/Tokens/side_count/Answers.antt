use Rattle.std.proofs.Common.{◌≡◌, ◌∙◌, ℕ, Some, map, sym, subst, ap, [], ◌∷◌, ◌++◌}
use Rattle.td_path.specs.declared.slot.Slot.TheVariants.{At}
use Rattle.td_doc.specs.Slots.{rows_in_slot}
use Rattle.td_list.specs.Items.{IsItem, first_name, items_after}
use Rattle.td_brackets.specs.RowNumbers.{entry_of}
use Rattle.td_tree.specs.Reading.{shown}
use Rattle.td_tree.specs.declared.tree_row.RowState.TheVariants.{Node}
use Rattle.td_tree.specs.Parts.{state_at, table, array_at, part, doc_rows}
use Rattle.td_tree.specs.Walks.{IsStretch}
use Rattle.td_tree.proofs.ArrayParts.{part_length}
use Rattle.td_tree.proofs.RowPlaces.{is_node}
use Rattle.td_tree.proofs.NodeParts.{node_at}
use Rattle.td_tree.proofs.SideItems.{side_items, start_there}
use Rattle.td_tree.proofs.LeafSides.{array_place}
use Rattle.td_tree.proofs.KnownWalks.{side_stretch}
use Rattle.td_tree.proofs.CountedRows.{counted_slot}
use Rattle.td_tree.proofs.tokens.Tokens.side_count.Goals as goal

pub next-first-requires : goal.next-first-requires
next-first-requires c =
    let p = c.args.self.now in
    let t = c.requires.tree in
    let node : state_at p c.args.row ≡ Node = is_node (state_at p c.args.row)
    (λ a i e. c.in_default.not-InArray a i (c.state.ensures ∙ e)) c.requires.stands in
    let s = side_items p c.args.row (node_at p t c.args.row c.requires.row node) c.args.bit in
    subst (λ (x : ℕ). IsItem x p.items) (sym c.side_start.ensures) (start_there p t c.args.row c.args.bit s)

pub count_between-requires : goal.count_between-requires
count_between-requires c =
    let p = c.args.self.now in
    let t = c.requires.tree in
    let node : state_at p c.args.row ≡ Node = is_node (state_at p c.args.row)
    (λ a i e. c.in_default.not-InArray a i (c.state.ensures ∙ e)) c.requires.stands in
    let s = side_items p c.args.row (node_at p t c.args.row c.requires.row node) c.args.bit in
    record {
      tree = t;
      stretch = subst (λ (x : ℕ). IsStretch p c.next-first.result (Some x)) (sym c.side_end.ensures)
          (side_stretch p t c.args.row c.args.bit s c.next-first.result
          (c.next-first.ensures ∙ ap (λ (x : ℕ). first_name (items_after x p.items)) c.side_start.ensures));
    }

pub returns-in-InArray : goal.returns-in-InArray
returns-in-InArray c =
    let p = c.args.self.now in
    let e = c.leaf_side.ensures in
    let at = array_place p c.requires.tree c.args.row c.in-InArray.array c.in-InArray.index c.requires.row
    (sym c.in-InArray.ensures) in
    sym (part_length (array_at p c.in-InArray.array) c.leaf_side.result.from c.leaf_side.result.len e.within)
    ∙ counted_slot p (At (table p c.args.row).id c.args.bit)
    (part (array_at p c.in-InArray.array) c.leaf_side.result.from c.leaf_side.result.len)
    (ap (λ (x : ℕ). map entry_of (rows_in_slot (doc_rows p) (At (table p x).id c.args.bit))) (sym at.2) ∙ e.rows)

pub returns-in_default : goal.returns-in_default
returns-in_default c =
    let p = c.args.self.now in
    let t = c.requires.tree in
    let node : state_at p c.args.row ≡ Node = is_node (state_at p c.args.row)
    (λ a i e. c.in_default.not-InArray a i (c.state.ensures ∙ e)) c.requires.stands in
    let s = side_items p c.args.row (node_at p t c.args.row c.requires.row node) c.args.bit in
    let first = c.next-first.ensures ∙ ap (λ (x : ℕ). first_name (items_after x p.items)) c.side_start.ensures in
    c.count_between.ensures (record {
      front = s.front ++ s.start ∷ [];
      inner = s.inner;
      back = s.ending ∷ s.back;
      is = (side_stretch p t c.args.row c.args.bit s c.next-first.result first).is;
      starts = (side_stretch p t c.args.row c.args.bit s c.next-first.result first).starts;
      ends = ap Some (s.end_named ∙ sym c.side_end.ensures);
    })
    ∙ counted_slot p (At (table p c.args.row).id c.args.bit) (shown p s.inner) s.rows
