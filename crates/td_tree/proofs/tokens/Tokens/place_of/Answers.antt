use Rattle.std.proofs.Common.{◌≡◌, ◌∙◌, ◌+◌, ◌*◌, ◌-◌, ℕ, sym, ap, subst, arith}
use Rattle.td_base.proofs.Lists.{In-map}
use Rattle.td_list.specs.Items.{Item, IsItem}
use Rattle.td_tree.specs.declared.tree_row.RowState.TheVariants.{Node}
use Rattle.td_tree.specs.Parts.{state_at, row_of_array, leaf_item}
use Rattle.td_tree.specs.Reading.{StandsAt}
use Rattle.td_tree.proofs.RowPlaces.{place_in_leaf, place_of_node, is_node}
use Rattle.td_tree.proofs.NodeParts.{node_at, atom_there}
use Rattle.td_tree.proofs.tokens.Tokens.place_of.Goals as goal

pub returns-in-InArray-clause-place : goal.returns-in-InArray-clause-place
returns-in-InArray-clause-place c =
    let p = c.args.self.now in
    let leaf = c.leaf_of-leaf in
    subst (λ (x : ℕ). StandsAt p c.args.row (3 * x + 1) (c.in-InArray.index - leaf.result.from))
    (sym (c.row_in.ensures ∙ ap (row_of_array p c.in-InArray.array) c.middle.ensures))
    (place_in_leaf p c.requires.tree c.args.row c.in-InArray.array c.in-InArray.index leaf.result.from leaf.result.len
    c.requires.row (sym c.in-InArray.ensures) leaf.ensures.part leaf.ensures.leaf leaf.ensures.low
    leaf.ensures.high)

pub returns-in_default-clause-place : goal.returns-in_default-clause-place
returns-in_default-clause-place c =
    let p = c.args.self.now in
    let node : state_at p c.args.row ≡ Node = is_node (state_at p c.args.row)
    (λ a i e. c.in_default.not-InArray a i (c.state.ensures ∙ e)) c.requires.stands in
    let n = node_at p c.requires.tree c.args.row c.requires.row node in
    place_of_node p c.requires.tree c.args.row c.requires.row node (atom_there p c.args.row n)

pub returns-in-InArray-clause-there : goal.returns-in-InArray-clause-there
returns-in-InArray-clause-there c =
    let p = c.args.self.now in
    let leaf = c.leaf_of-leaf in
    subst (λ (x : ℕ). IsItem (3 * x + 1) p.items) (sym
    (c.row_in.ensures ∙ ap (row_of_array p c.in-InArray.array) c.middle.ensures))
    (In-map (λ (i : Item). i.name) (leaf_item p c.in-InArray.array leaf.result.from leaf.result.len) p.items
    leaf.ensures.leaf)

pub returns-in-InArray-clause-few : goal.returns-in-InArray-clause-few
returns-in-InArray-clause-few c =
    let short = c.requires.tree.short c.in-InArray.array c.leaf_of-leaf.ensures.part.array in
    let within = c.leaf_of-leaf.ensures.part.within in
    let high = c.leaf_of-leaf.ensures.high in
    omega arith

pub returns-in_default-clause-there : goal.returns-in_default-clause-there
returns-in_default-clause-there c =
    let p = c.args.self.now in
    let node : state_at p c.args.row ≡ Node = is_node (state_at p c.args.row)
    (λ a i e. c.in_default.not-InArray a i (c.state.ensures ∙ e)) c.requires.stands in
    atom_there p c.args.row (node_at p c.requires.tree c.args.row c.requires.row node)
