use Rattle.std.proofs.Common.{◌∙◌}
use Rattle.td_doc.proofs.RootRows.{within_root}
use Rattle.td_doc.proofs.doc.Doc.is_row.Goals as goal

pub returns : goal.returns
returns g c = c.within.ensures ∙ within_root (g.Self.Doc.rows c.args.self.now) c.args.id
