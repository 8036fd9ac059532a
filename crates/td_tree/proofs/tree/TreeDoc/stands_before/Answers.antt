use Rattle.td_tree.specs.Parts.{doc_rows}
use Rattle.td_tree.proofs.RowOrder.{none_before}
use Rattle.td_tree.proofs.tree.TreeDoc.stands_before.Goals as goal

pub returns-in-None : goal.returns-in-None
returns-in-None c = none_before (doc_rows c.args.self.now) c.args.first c.args.second c.in-None.ensures.none
