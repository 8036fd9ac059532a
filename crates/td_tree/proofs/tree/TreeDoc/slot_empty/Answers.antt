use Rattle.std.proofs.Common.{◌∙◌, ap, sym}
use Rattle.td_doc.specs.Slots.{is_empty_slot}
use Rattle.td_tree.specs.Parts.{doc_rows}
use Rattle.td_tree.proofs.RowsFound.{root_empty}
use Rattle.td_tree.proofs.tree.TreeDoc.slot_empty.Goals as goal

pub returns-in-Root : goal.returns-in-Root
returns-in-Root c = root_empty (doc_rows c.args.self.now) c.rows.result c.rows.ensures
    ∙ ap (is_empty_slot (doc_rows c.args.self.now)) (sym c.in-Root.is)
