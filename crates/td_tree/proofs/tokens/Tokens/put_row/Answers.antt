use Rattle.std.proofs.Common.{◌≡◌, ◌∙◌, ◌+◌, ◌++◌, ◌∷◌, ℕ, List, [], length, ap, sym, subst, arith}
use Rattle.td_list.specs.Items.{Item, IsItem, AreNew, AreApart, put_at}
use Rattle.td_brackets.specs.Brackets.{Entry}
use Rattle.td_tree.specs.declared.tree_row.RowState.{RowState}
use Rattle.td_tree.specs.declared.tree_row.RowState.TheVariants.{Node}
use Rattle.td_tree.specs.Parts.{Parts, rows_with, open_item, atom_item, close_item, node_items}
use Rattle.td_tree.specs.Places.{IsPut}
use Rattle.td_tree.proofs.Columns.{rows_long, rows_more}
use Rattle.td_tree.proofs.Opening.{more_nodes}
use Rattle.td_tree.proofs.PutRow.{place_there, piece_names, piece_apart, piece_new, is_put}
use Rattle.td_tree.proofs.tokens.Tokens.put_row.Goals as goal
use Rattle.td_tree.proofs.tokens.Tokens.put_row.Goals.{After-close_item}

-- what is put
record Piece (c : After-close_item) : Type 0 where
  row : c.len-row.result ≡ length c.args.self.now.rows
  items : node_items (length c.args.self.now.rows) [] []
      ≡ c.open_item.result ∷ c.atom_item.result ∷ c.close_item.result ∷ []
  list : c.args.self.now.items ≡ c.self.inside.list

as_put : (n : ℕ) (o a k : Item) → o ≡ open_item n → a ≡ atom_item n 1 → k ≡ close_item n → node_items n [] []
    ≡ o ∷ a ∷ k ∷ []
as_put n o a k e f g = λ i. sym e i ∷ sym f i ∷ sym g i ∷ []

piece : (c : After-close_item) → Piece c
piece c =
    let long : length c.make_room.new.rows.entries ≡ length c.args.self.now.rows =
    ap (λ (xs : List Entry). length xs) c.make_room.ensures.rows
    ∙ sym (rows_long c.self.inside.rows.entries c.self.inside.states.items c.self.invariant)
    ∙ ap (λ (p : Parts). length p.rows) c.self.view_is in
    let row : c.len-row.result ≡ length c.args.self.now.rows = c.len-row.ensures ∙ long in
    record {
      row = row;
      items = as_put (length c.args.self.now.rows) c.open_item.result c.atom_item.result c.close_item.result
          (c.open_item.ensures ∙ ap open_item row) (c.atom_item.ensures ∙ ap (λ (n : ℕ). atom_item n 1) row)
          (c.close_item.ensures ∙ ap close_item row);
      list = sym (ap (λ (p : Parts). p.items) c.self.view_is);
    }

pub put_at-requires-clause-there : goal.put_at-requires-clause-there
put_at-requires-clause-there c = λ x e.
    let k = piece (goal.at.put_at-requires-clause-there c).After-close_item in
    subst (IsItem x) k.list (place_there c.args.self.now c.requires.place.0 c.args.id c.args.at
    c.requires.place.1.place x e)

pub put_at-requires-clause-apart : goal.put_at-requires-clause-apart
put_at-requires-clause-apart c =
    let k = piece (goal.at.put_at-requires-clause-apart c).After-close_item in
    subst AreApart k.items (piece_apart (length c.args.self.now.rows))

pub put_at-requires-clause-new : goal.put_at-requires-clause-new
put_at-requires-clause-new c =
    let k = piece (goal.at.put_at-requires-clause-new c).After-close_item in
    let p : Parts = c.args.self.now in
    subst (λ (x : List Item × List Item). AreNew x.0 x.1) (λ i. (k.items i, k.list i))
    (piece_new p c.requires.tree (node_items (length p.rows) [] [])
    (λ x i. let e = piece_names (length p.rows) x i in omega arith))

pub overflow_add-self : goal.overflow_add-self
overflow_add-self c =
    let more = more_nodes c.args.self.now c.requires.tree in
    let same = ap (λ (p : Parts). p.nodes) c.self.view_is in
    omega arith

pub overflow_add-self-2 : goal.overflow_add-self-2
overflow_add-self-2 c =
    let many = c.requires.tree.many in
    let most = c.requires.tree.most in
    let same = ap (λ (p : Parts). p.count) c.self.view_is in
    omega arith

pub returns-clause-ok : goal.returns-clause-ok
returns-clause-ok c =
    let k = piece (goal.at.returns-clause-ok c).After-close_item in
    let p : Parts = c.args.self.now in
    let items : c.put_at.new.list ≡ put_at c.args.at (node_items (length p.rows) [] []) p.items =
    c.in_ok-put_at.ensures.ok
    ∙ (λ i. put_at c.args.at (sym k.items i) (sym k.list i)) in
    let entry : Entry = record { id = c.args.id; atom = c.args.atom.now; deletes = [] } in
    let entries : c.push.new.self.entries ≡ c.self.inside.rows.entries ++ entry ∷ [] =
    c.push.ensures.row ∙ (λ i. c.make_room.ensures.rows i
    ++ record { id = c.args.id; atom = c.in_ok-atom.ensures i; deletes = [] } ∷ []) in
    let states : c.push_state.new.states.items ≡ c.self.inside.states.items ++ Node ∷ [] = c.push_state.ensures.state
    ∙ ap (λ (xs : List RowState). xs ++ Node ∷ []) c.make_room.ensures.states in
    let rows : rows_with c.push.new.self.entries c.push_state.new.states.items ≡ p.rows
    ++ record { entry = entry; state = Node } ∷ [] =
    (λ i. rows_with (entries i) (states i)) ∙ rows_more c.self.inside.rows.entries (entry ∷ [])
    c.self.inside.states.items (Node ∷ []) c.self.invariant
    ∙ ap (λ (q : Parts). q.rows ++ record { entry = entry; state = Node } ∷ []) c.self.view_is in
    let few = c.in_ok-make_room.ensures.few in
    let long = rows_long c.self.inside.rows.entries c.self.inside.states.items c.self.invariant in
    let was = ap (λ (q : Parts). length q.rows) c.self.view_is in
    subst (λ (q : Parts). IsPut p q c.args.at c.args.id c.args.atom.now)
    (λ i. record {
      items = sym items i;
      rows = sym rows i;
      arrays = (sym c.self.view_is i).arrays;
      nodes = (sym c.self.view_is i).nodes + 1;
      count = (sym c.self.view_is i).count + 1;
    })
    (is_put p c.requires.tree c.args.at c.args.id c.args.atom.now c.requires.new (omega arith))
