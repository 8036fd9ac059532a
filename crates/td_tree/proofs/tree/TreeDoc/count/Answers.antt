use Rattle.std.proofs.Common.{◌∙◌, ap, length, sym}
use Rattle.td_doc.specs.Slots.{rows_in_slot}
use Rattle.td_doc.proofs.RootRows.{all_in_root}
use Rattle.td_tree.specs.Parts.{doc_rows}
use Rattle.td_tree.proofs.tree.TreeDoc.count.Goals as goal

pub returns-in-Root : goal.returns-in-Root
returns-in-Root c =
    let rows = doc_rows c.args.self.now in
    c.rows.ensures ∙ ap length (sym (all_in_root rows) ∙ ap (rows_in_slot rows) (sym c.in-Root.is))
