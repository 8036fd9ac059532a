use Rattle.td_doc.proofs.PathEnds.{last_id-last}
use Rattle.td_doc.proofs.path_row.PathRow.id.Goals as goal

pub returns : goal.returns
returns c = rw (← c.self.view_is, c.as_slice-pairs.ensures) (last_id-last _ c.self.inside.path _ c.self.invariant.0)
