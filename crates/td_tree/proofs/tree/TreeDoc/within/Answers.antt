use Rattle.td_tree.specs.Parts.{doc_rows}
use Rattle.td_tree.proofs.RowsFound.{not_within}
use Rattle.td_tree.proofs.tree.TreeDoc.within.Goals as goal

pub returns-in-None : goal.returns-in-None
returns-in-None c = not_within (doc_rows c.args.self.now) c.args.id c.args.slot c.in-None.ensures.none
