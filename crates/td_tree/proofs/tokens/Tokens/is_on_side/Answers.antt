use Rattle.std.proofs.Common.{◌≡◌, ◌∙◌, ◌∷◌, ◌&&◌, ℕ, map, refl, sym, subst, ap, inl, nat_lt}
use Rattle.td_brackets.specs.RowNumbers.{entry_of}
use Rattle.td_base.specs.Lists.{In}
use Rattle.td_base.proofs.Lists.{In-back}
use Rattle.td_path.specs.declared.slot.Slot.TheVariants.{At}
use Rattle.td_doc.specs.Slots.{rows_in_slot}
use Rattle.td_list.specs.Items.{IsItem, place_of}
use Rattle.td_tree.specs.declared.tree_row.RowState.TheVariants.{Node}
use Rattle.td_tree.specs.Parts.{state_at, table, doc_rows}
use Rattle.td_tree.specs.Reading.{shown_at, is_in_part}
use Rattle.td_tree.proofs.RowPlaces.{is_node}
use Rattle.td_tree.proofs.NodeParts.{node_at}
use Rattle.td_tree.proofs.SideItems.{side_items, start_there, end_there, between_is}
use Rattle.td_tree.proofs.LeafSides.{array_place, in_part_is}
use Rattle.td_tree.proofs.tokens.Tokens.is_on_side.Goals as goal

pub is_between-requires : goal.is_between-requires
is_between-requires c =
    let p = c.args.self.now in
    let t = c.requires.tree in
    let node : state_at p c.args.node ≡ Node = is_node (state_at p c.args.node)
    (λ a i e. c.in_default.not-InArray a i (c.state.ensures ∙ e)) c.requires.node_stands in
    let s = side_items p c.args.node (node_at p t c.args.node c.requires.node node) c.args.bit in
    record {
      first = subst (λ (x : ℕ). IsItem x p.items) (sym c.side_start.ensures) (start_there p t c.args.node c.args.bit s);
      name = c.place_of-name.ensures.there;
      last = subst (λ (x : ℕ). IsItem x p.items) (sym c.side_end.ensures) (end_there p t c.args.node c.args.bit s);
    }

pub returns-in-InArray : goal.returns-in-InArray
returns-in-InArray c =
    let p = c.args.self.now in
    let t = c.requires.tree in
    let e = c.leaf_side-side.ensures in
    let at = array_place p t c.args.node c.in-InArray.array c.in-InArray.index c.requires.node
    (sym c.in-InArray.ensures) in
    c.is_in.ensures ∙ ap (λ (a : ℕ). is_in_part (state_at p c.args.row) a c.leaf_side-side.result.from
    c.leaf_side-side.result.len) e.array
    ∙ in_part_is p t c.in-InArray.array c.leaf_side-side.result.from c.leaf_side-side.result.len at.0 e.within e.stand
    (At (table p c.args.node).id c.args.bit) (ap (λ (x : ℕ). map entry_of
    (rows_in_slot (doc_rows p) (At (table p x).id c.args.bit))) (sym at.2) ∙ e.rows) c.args.row c.requires.row
    c.requires.stands

pub returns-in_default : goal.returns-in_default
returns-in_default c =
    let p = c.args.self.now in
    let t = c.requires.tree in
    let node : state_at p c.args.node ≡ Node = is_node (state_at p c.args.node)
    (λ a i e. c.in_default.not-InArray a i (c.state.ensures ∙ e)) c.requires.node_stands in
    let s = side_items p c.args.node (node_at p t c.args.node c.requires.node node) c.args.bit in
    let l = c.place_of-name.ensures.place in
    let there : In c.args.row (shown_at p l.item) =
    subst (In c.args.row) (sym l.is) (In-back c.args.row l.before (c.args.row ∷ l.after) (inl refl)) in
    c.is_between.ensures
    ∙ (λ i. nat_lt (place_of (c.side_start.ensures i) p.items)
    (place_of c.place_of-name.result.name p.items) && nat_lt (place_of c.place_of-name.result.name p.items)
    (place_of (c.side_end.ensures i) p.items))
    ∙ between_is p t c.args.node c.args.bit s l.item c.place_of-name.result.name c.args.row l.there l.named there
