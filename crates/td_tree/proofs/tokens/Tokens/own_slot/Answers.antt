use Rattle.std.proofs.Common.{◌≡◌, ◌∙◌, ◌+◌, ◌*◌, ◌/◌, ℕ, sym, ap, subst}
use Rattle.td_base.proofs.Lists.{In-map}
use Rattle.td_list.specs.Items.{Item, IsItem}
use Rattle.td_tree.specs.declared.tree_row.RowState.TheVariants.{Node}
use Rattle.td_tree.specs.Parts.{state_at, row_of_array, leaf_item}
use Rattle.td_tree.proofs.RowPlaces.{is_node}
use Rattle.td_tree.proofs.NodeParts.{node_at, close_there}
use Rattle.td_tree.proofs.LeafSides.{array_place}
use Rattle.td_tree.proofs.OwnSlots.{same_row, behind_leaf, behind_node, own_of_some, own_of_none, leaf_own}
use Rattle.td_tree.proofs.tokens.Tokens.own_slot.Goals as goal

pub slot_after-requires-clause-there : goal.slot_after-requires-clause-there
slot_after-requires-clause-there c =
    let p = c.args.self.now in
    let leaf = c.leaf_of-leaf in
    subst (λ (x : ℕ). IsItem (3 * x + 1) p.items) (sym
    (c.row_in.ensures ∙ ap (row_of_array p c.in-InArray.array) c.middle.ensures))
    (In-map (λ (i : Item). i.name) (leaf_item p c.in-InArray.array leaf.result.from leaf.result.len) p.items
    leaf.ensures.leaf)

pub slot_after-requires-in_default : goal.slot_after-requires-in_default
slot_after-requires-in_default c =
    let p = c.args.self.now in
    let node : state_at p c.args.row ≡ Node = is_node (state_at p c.args.row)
    (λ a i e. c.in_default.not-InArray a i (c.state.ensures ∙ e)) c.requires.stands in
    record {
      tree = c.requires.tree;
      there = close_there p c.args.row
          (node_at p c.requires.tree c.args.row c.requires.row node);
    }

pub returns-in_default : goal.returns-in_default
returns-in_default c = λ q e.
    let p = c.args.self.now in
    let node : state_at p c.args.row ≡ Node = is_node (state_at p c.args.row)
    (λ a i e. c.in_default.not-InArray a i (c.state.ensures ∙ e)) c.requires.stands in
    let m = node_at p c.requires.tree c.args.row c.requires.row node in
    same_row p c.args.row _ _ _ m.told q e ∙ sym (behind_node p c.requires.tree c.args.row m
    c.slot_after-in_default.result c.slot_after-in_default.ensures)

pub returns-then-is_some : goal.returns-then-is_some
returns-then-is_some c = λ q e.
    let p = c.args.self.now in
    let leaf = c.leaf_of-leaf in
    let part = c.part_of-slot in
    let at = array_place p c.requires.tree c.args.row c.in-InArray.array c.in-InArray.index c.requires.row
    (sym c.in-InArray.ensures) in
    leaf_own p c.requires.tree c.in-InArray.array c.in-InArray.index leaf.result.array leaf.result.from
    leaf.result.len part.result.rows.from part.result.rows.len part.result.slot leaf.ensures.array
    leaf.ensures.part leaf.ensures.leaf
    part.ensures.part part.ensures.middle part.ensures.there c.args.row at.2 q e
    ∙ own_of_some _ part.result.slot (sym c.is_some.ensures ∙ c.if-is_some.true) ∙ sym c.unwrap_or.ensures

pub returns-else-is_some : goal.returns-else-is_some
returns-else-is_some c = λ q e.
    let p = c.args.self.now in
    let leaf = c.leaf_of-leaf in
    let part = c.part_of-slot in
    let at = array_place p c.requires.tree c.args.row c.in-InArray.array c.in-InArray.index c.requires.row
    (sym c.in-InArray.ensures) in
    let name : 3 * c.row_in.result + 1 ≡ 3 * row_of_array p c.in-InArray.array
    (leaf.result.from + leaf.result.len / 2) + 1 =
    ap (λ (x : ℕ). 3 * x + 1) (c.row_in.ensures ∙ ap (row_of_array p c.in-InArray.array) c.middle.ensures) in
    leaf_own p c.requires.tree c.in-InArray.array c.in-InArray.index leaf.result.array leaf.result.from
    leaf.result.len part.result.rows.from part.result.rows.len part.result.slot leaf.ensures.array
    leaf.ensures.part leaf.ensures.leaf
    part.ensures.part part.ensures.middle part.ensures.there c.args.row at.2 q e
    ∙ own_of_none _ part.result.slot (sym c.is_some.ensures ∙ c.if-is_some.false)
    ∙ sym (behind_leaf p c.requires.tree c.in-InArray.array leaf.result.from leaf.result.len leaf.ensures.part
    leaf.ensures.leaf c.slot_after.result (λ front i back f g. c.slot_after.ensures front i back f (g ∙ sym name)))
