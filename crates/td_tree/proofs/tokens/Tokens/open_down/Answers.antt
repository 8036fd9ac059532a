use Rattle.std.proofs.Common.{◌≡◌, ◌∙◌, ◌++◌, ◌+◌, ℕ, List, length, ap, sym, subst, arith}
use Rattle.td_base.specs.Lists.{In}
use Rattle.td_base.proofs.Lists.{In-map}
use Rattle.td_list.specs.Items.{Item, IsItem, AreNew, items_before, items_after}
use Rattle.td_tree.specs.declared.tree_row.RowState.TheVariants.{Node}
use Rattle.td_tree.specs.Parts.{Parts, state_at, row_of_array, leaf_item, rows_with, IsMoreOpen}
use Rattle.td_tree.specs.Ways.{nodes_at, leaf_name, with_way}
use Rattle.td_tree.proofs.Columns.{states_long, nodes_long, nodes_set}
use Rattle.td_tree.proofs.tokens.Tokens.open_down.Goals as goal
use Rattle.td_tree.proofs.tokens.Tokens.open_down.Goals.{After-drop-way-3}

pub replace_one-requires-clause-there : goal.replace_one-requires-clause-there
replace_one-requires-clause-there c =
    let p : Parts = c.args.self.now in
    let name = c.name-name.ensures ∙ ap (λ (i : Item). i.name) c.whole.ensures in
    let items = ap (λ (q : Parts). q.items) c.self.view_is in
    subst (λ (x : ℕ × List Item). IsItem x.0 x.1) (λ i. (sym name i, sym items i))
    (In-map (λ (i : Item). i.name) (leaf_item p c.args.leaf.array c.args.leaf.from c.args.leaf.len) p.items
    c.requires.there)

pub replace_one-requires-clause-new : goal.replace_one-requires-clause-new
replace_one-requires-clause-new c =
    let name = c.name-name.ensures ∙ ap (λ (i : Item). i.name) c.whole.ensures in
    let items = ap (λ (q : Parts). q.items) c.self.view_is in
    subst (λ (x : List Item × (ℕ × List Item)). AreNew x.0 (items_before x.1.0 x.1.1 ++ items_after x.1.0 x.1.1))
    (λ i. (sym c.deref.ensures.value i, (sym name i, sym items i))) c.in_ok-way.ensures.new

pub make_nodes-requires : goal.make_nodes-requires
make_nodes-requires c = λ r m.
    let known = c.in_ok-way.ensures.known r (subst (In r) c.deref-2.ensures.value m) in
    let was = ap (λ (q : Parts). length q.rows) c.self.view_is in
    let long = states_long c.self.inside.rows.entries c.self.inside.states.items c.self.invariant in
    omega arith

pub invariant_of-self-2 : goal.invariant_of-self-2
invariant_of-self-2 c = c.self.invariant ∙ sym
    (ap length c.make_nodes.ensures ∙ nodes_long c.deref-2.result.now c.self.inside.states.items)

-- the parts are those with the piece in place of the leaf
now : (c : After-drop-way-3) → with_way c.args.self.now c.args.leaf c.in_ok-way.way.piece.items
    c.in_ok-way.way.tops.items
    ≡ record {
      items = c.replace_one.new.self;
      rows =
          rows_with c.self.inside.rows.entries c.make_nodes.new.states.items;
      arrays = c.self.inside.arrays.items;
      nodes = c.self.inside.nodes + c.len.result;
      count = c.self.inside.count;
    }
now c =
    let view = c.self.view_is in
    let name = c.name-name.ensures ∙ ap (λ (i : Item). i.name) c.whole.ensures in
    let items : c.replace_one.new.self ≡ items_before (leaf_name c.args.self.now c.args.leaf) c.args.self.now.items
    ++ (c.in_ok-way.way.piece.items ++ items_after (leaf_name c.args.self.now c.args.leaf) c.args.self.now.items) =
    c.in_ok-replace_one.ensures.ok
    ∙ (λ i. items_before (name i) ((view i).items)
    ++ (c.deref.ensures.value i ++ items_after (name i) ((view i).items))) in
    let rows : rows_with c.self.inside.rows.entries c.make_nodes.new.states.items
    ≡ nodes_at c.in_ok-way.way.tops.items c.args.self.now.rows =
    ap (rows_with c.self.inside.rows.entries) c.make_nodes.ensures
    ∙ nodes_set c.self.inside.rows.entries c.deref-2.result.now c.self.inside.states.items c.self.invariant
    ∙ (λ i. nodes_at (c.deref-2.ensures.value i) ((view i).rows)) in
    let count : length c.in_ok-way.way.tops.items ≡ c.len.result =
    (let same = c.len.ensures in let lent = c.deref-2.ensures.len in let value = ap length c.deref-2.ensures.value in
    omega arith) in
    λ i. record {
      items = sym items i;
      rows = sym rows i;
      arrays = (sym view i).arrays;
      nodes = (sym view i).nodes + count i;
      count = (sym view i).count;
    }

pub returns-clause-kept : goal.returns-clause-kept
returns-clause-kept c = subst (IsMoreOpen c.args.self.now) (now c) c.in_ok-way.ensures.kept

pub returns-clause-node : goal.returns-clause-node
returns-clause-node c = subst (λ (q : Parts). state_at q (row_of_array c.args.self.now c.args.leaf.array c.args.index)
    ≡ Node) (now c) c.in_ok-way.ensures.node
