use Rattle.std.proofs.Common.{◌∙◌, ap, subst, sym}
use Rattle.td_doc.specs.Slots.{is_within}
use Rattle.td_tree.specs.Parts.{table, doc_rows, IsTree}
use Rattle.td_tree.proofs.RowsFound.{found_row, in_root}
use Rattle.td_tree.proofs.tree.Tree.is_row_within.Goals as goal

pub returns-in-Root : goal.returns-in-Root
returns-in-Root c =
    let p = c.args.self.now in
    let t : IsTree p = subst IsTree c.self.view_is c.self.invariant.0.tree in
    let f = found_row p t c.args.row c.requires.row c.requires.stands in
    in_root (doc_rows p) (table p c.args.row).id f.row f.found
    ∙ ap (is_within (doc_rows p) (table p c.args.row).id) (sym c.in-Root.is)
