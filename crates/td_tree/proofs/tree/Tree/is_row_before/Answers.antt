use Rattle.td_tree.specs.Parts.{table, doc_rows}
use Rattle.td_tree.proofs.RowOrder.{before_none}
use Rattle.td_tree.proofs.tree.Tree.is_row_before.Goals as goal

pub returns-in-None : goal.returns-in-None
returns-in-None c =
    before_none (doc_rows c.args.self.now) (table c.args.self.now c.args.row).id c.args.other c.in-None.ensures.none
