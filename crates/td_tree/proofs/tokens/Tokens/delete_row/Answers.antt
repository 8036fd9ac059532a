use Rattle.std.proofs.Common.{◌≡◌, ◌∙◌, ◌<◌, ◌^◌, ℕ, List, length, set, get_or, ap, sym, subst, arith}
use Rattle.td_list.specs.Items.{Item, IsItem, renew, weight_of}
use Rattle.td_brackets.specs.Brackets.{Entry}
use Rattle.td_tree.specs.declared.tree_row.RowState.{RowState}
use Rattle.td_tree.specs.Parts.{Parts, nobody, rows_with, table, state_at, atom_item, IsDeleted}
use Rattle.td_tree.proofs.Columns.{rows_long, entry_in, entry_set}
use Rattle.td_tree.proofs.Deleting.{deleted}
use Rattle.td_tree.proofs.DeletedTree.{there, lighter, is_deleted}
use Rattle.td_tree.proofs.tokens.Tokens.delete_row.Goals as goal

pub add_delete-requires : goal.add_delete-requires
add_delete-requires c =
    let was = ap (λ (p : Parts). length p.rows) c.self.view_is in
    let long = rows_long c.self.inside.rows.entries c.self.inside.states.items c.self.invariant in
    omega (arith, c.requires.row)

pub renew-requires-clause-there : goal.renew-requires-clause-there
renew-requires-clause-there c =
    subst (λ (k : Item × List Item). IsItem k.0.name k.1)
    (λ i. (sym c.atom_item.ensures i, (sym c.self.view_is i).items))
    (there c.args.self.now c.requires.tree c.args.row c.requires.row c.requires.node c.args.by)

pub renew-requires-clause-light : goal.renew-requires-clause-light
renew-requires-clause-light c =
    let p : Parts = c.args.self.now in
    let light = c.requires.tree.light in
    let most = c.requires.tree.most in
    let less = lighter p c.requires.tree c.args.row c.requires.row c.requires.node c.args.by in
    subst (λ (n : ℕ). n < 2 ^ 31) (λ i. weight_of (renew (sym c.atom_item.ensures i) (sym c.self.view_is i).items))
    (omega arith)

pub returns-clause-ok : goal.returns-clause-ok
returns-clause-ok c =
    let p : Parts = c.args.self.now in
    let items : c.renew.new.self ≡ renew (atom_item c.args.row 0) p.items = c.renew.ensures
    ∙ (λ i. renew (c.atom_item.ensures i) (c.self.view_is i).items) in
    let entries : List Entry = c.self.inside.rows.entries in
    let states : List RowState = c.self.inside.states.items in
    let rows : rows_with c.add_delete.new.self.entries states
    ≡ set p.rows c.args.row (record {
      entry = deleted (table p c.args.row) c.args.by;
      state = state_at p c.args.row;
    }) =
    ap (λ (es : List Entry). rows_with es states) c.in_ok-add_delete.ensures.ok
    ∙ entry_set entries states c.self.invariant c.args.row
    (deleted (get_or entries c.args.row nobody.entry) c.args.by)
    ∙ (λ i. set (rows_with entries states) c.args.row
    (record {
      entry = deleted (sym (entry_in entries states c.self.invariant c.args.row) i) c.args.by;
      state = (get_or (rows_with entries states) c.args.row nobody).state;
    }))
    ∙ (λ i. set (c.self.view_is i).rows c.args.row
    (record {
      entry = deleted (table (c.self.view_is i) c.args.row) c.args.by;
      state = state_at (c.self.view_is i) c.args.row;
    })) in
    subst (λ (q : Parts). IsDeleted p q c.args.row c.args.by)
    (λ i. record {
      items = sym items i;
      rows = sym rows i;
      arrays = (sym c.self.view_is i).arrays;
      nodes = (sym c.self.view_is i).nodes;
      count = (sym c.self.view_is i).count;
    })
    (is_deleted p c.requires.tree c.args.row c.requires.row c.requires.node c.args.by)
