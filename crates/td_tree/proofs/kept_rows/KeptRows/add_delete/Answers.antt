use Rattle.std.proofs.Common.{◌≡◌, ◌<◌, ◌≤◌, ◌∙◌, length, set, get_or, ap, sym, subst, arith}
use Rattle.std.proofs.Common.{length-set}
use Rattle.std.proofs.lemmas.List.{get_or_default}
use Rattle.std.proofs.lemmas.Result.{on_ok_weaker, on_err_weaker}
use Rattle.td_doc.specs.Deletion.{add_dot}
use Rattle.td_tree.specs.declared.tree_row.TreeRow.{TreeRow}
use Rattle.td_tree.specs.KeptRows.{Column, several_at, deletes_of, entries_from}
use Rattle.td_tree.specs.RowAtom.{IsFrom}
use Rattle.td_tree.specs.Parts.{nobody}
use Rattle.td_tree.proofs.Deleting.{deleted}
use Rattle.td_tree.proofs.KeptRows.{no_row, entries_long, dot_added, dots_kept}
use Rattle.td_tree.proofs.PlacedAtoms.{found_at, found_set}
use Rattle.td_tree.proofs.kept_rows.KeptRows.add_delete.Goals as goal
use Rattle.td_tree.proofs.kept_rows.KeptRows.add_delete.Goals.{After-index_mut}

-- the row is there
low : (c : After-index_mut) → c.args.row < length c.self.inside.rows.items
low c =
    let was = ap (λ (k : Column). length k.entries) c.self.view_is in
    let long = entries_long 0 c.self.inside.long.items (several_at c.self.inside.several) 0 c.self.inside.rows.items in
    omega (arith, c.requires)

-- and this is the row
row : (c : After-index_mut) → c.index_mut.result.now ≡ get_or c.self.inside.rows.items c.args.row no_row
row c = c.index_mut.ensures.value
    ∙ get_or_default c.self.inside.rows.items c.args.row c.index_mut.result.now no_row (low c)

pub index_mut-requires : goal.index_mut-requires
index_mut-requires c =
    let was = ap (λ (k : Column). length k.entries) c.self.view_is in
    let long = entries_long 0 c.self.inside.long.items (several_at c.self.inside.several) 0 c.self.inside.rows.items in
    omega (arith, c.self.inside.rows.ok.0, c.requires)

-- nothing comes to stand beside another row, and the row keeps its atom
pub invariant_of-self : goal.invariant_of-self
invariant_of-self c =
    let a = (goal.at.invariant_of-self c).After-index_mut in
    let b = low a in
    let n = length c.self.inside.long.items in
    let items = c.self.inside.rows.items in
    let now : TreeRow = record (c.index_mut.result.now) { deleted = c.add_dot_of.new.first } in
    let long : length (set items c.args.row now) ≡ length items = length-set items c.args.row now in
    let found = c.self.invariant.found in
    record {
      found = found_set 0 n items c.args.row now
          (subst (λ (x : TreeRow). IsFrom 0 n x.atom) (sym (row a)) (found_at 0 n items c.args.row b found)) found;
      beside = λ r h.
          let there : length items ≤ r = omega (arith, long, h) in
          c.add_dot_of.ensures.others r (λ (e : r ≡ c.args.row). omega (arith, b, there, e))
          ∙ c.self.invariant.beside r there;
      fewer = omega (arith, long, c.self.invariant.fewer);
      few = c.self.invariant.few;
    }

pub returns-clause-ok : goal.returns-clause-ok
returns-clause-ok c =
    let a = goal.at.returns-clause-ok c in
    let b = low a.After-index_mut in
    let l = c.self.inside.long.items in
    let e = row a.After-index_mut in
    let d = several_at c.self.inside.several in
    let f = several_at c.add_dot_of.new.several in
    let items = c.self.inside.rows.items in
    let first = c.add_dot_of.new.first in
    on_ok_weaker c.add_dot_of.result
    (λ (is : deletes_of (f c.args.row) first
    ≡ add_dot c.args.by (deletes_of (d c.args.row) c.index_mut.result.now.deleted)).
    (λ i. entries_from 0 l f 0 (set items c.args.row (record (e i) { deleted = first })))
    ∙ dot_added 0 l d f items c.args.row first c.args.by b
    (is ∙ ap (λ (x : TreeRow). add_dot c.args.by (deletes_of (d c.args.row) x.deleted)) e)
    c.add_dot_of.ensures.others
    ∙ (λ i. set (c.self.view_is i).entries c.args.row
    (deleted (get_or (c.self.view_is i).entries c.args.row nobody.entry) c.args.by)))
    c.add_dot_of.ensures.row

pub returns-clause-err : goal.returns-clause-err
returns-clause-err c =
    let a = goal.at.returns-clause-err c in
    let b = low a.After-index_mut in
    let l = c.self.inside.long.items in
    let e = row a.After-index_mut in
    let d = several_at c.self.inside.several in
    let f = several_at c.add_dot_of.new.several in
    let items = c.self.inside.rows.items in
    let first = c.add_dot_of.new.first in
    on_err_weaker c.add_dot_of.result
    (λ (is : deletes_of (f c.args.row) first ≡ deletes_of (d c.args.row) c.index_mut.result.now.deleted).
    (λ i. entries_from 0 l f 0 (set items c.args.row (record (e i) { deleted = first })))
    ∙ dots_kept 0 l d f items c.args.row first b
    (is ∙ ap (λ (x : TreeRow). deletes_of (d c.args.row) x.deleted) e)
    c.add_dot_of.ensures.others
    ∙ ap (λ (k : Column). k.entries) c.self.view_is)
    c.add_dot_of.ensures.err
