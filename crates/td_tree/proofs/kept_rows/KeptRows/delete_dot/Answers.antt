use Rattle.std.proofs.Common.{◌≡◌, ◌<◌, ◌∙◌, length, get_or, ap, sym, refl, arith}
use Rattle.std.proofs.lemmas.List.{get_or_read_under}
use Rattle.std.specs.Prelude.{slice_get}
use Rattle.td_brackets.specs.Brackets.{Entry}
use Rattle.td_tree.specs.declared.tree_row.TreeRow.{TreeRow}
use Rattle.td_tree.specs.KeptRows.{Column, several_at, deletes_of}
use Rattle.td_tree.specs.Parts.{nobody}
use Rattle.td_tree.proofs.KeptRows.{no_row, entries_long, entry_of}
use Rattle.td_tree.proofs.kept_rows.KeptRows.delete_dot.Goals as goal

pub index-requires : goal.index-requires
index-requires c =
    let was = ap (λ (k : Column). length k.entries) c.self.view_is in
    let long = entries_long 0 c.self.inside.long.items (several_at c.self.inside.several) 0 c.self.inside.rows.items in
    omega (arith, c.self.inside.rows.ok.0, c.requires)

pub returns : goal.returns
returns c =
    let was = ap (λ (k : Column). length k.entries) c.self.view_is in
    let long = entries_long 0 c.self.inside.long.items (several_at c.self.inside.several) 0 c.self.inside.rows.items in
    let low : c.args.row < length c.self.inside.rows.items = omega (arith, c.requires) in
    let row : c.index.result.now ≡ get_or c.self.inside.rows.items c.args.row no_row =
    get_or_read_under c.self.inside.rows.items c.args.row (length c.self.inside.rows.items) c.index.result.now no_row
    c.index.ensures low refl in
    c.dot_of.ensures
    ∙ ap (λ (x : TreeRow). slice_get (deletes_of (several_at c.self.inside.several c.args.row) x.deleted) c.args.k) row
    ∙ sym (ap (λ (e : Entry). slice_get (e.deletes) c.args.k)
    (entry_of 0 c.self.inside.long.items (several_at c.self.inside.several) c.self.inside.rows.items c.args.row low))
    ∙ ap (λ (k : Column). slice_get ((get_or k.entries c.args.row nobody.entry).deletes) c.args.k) c.self.view_is
