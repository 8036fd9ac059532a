use Rattle.std.proofs.Common.{sym, ◌∙◌}
use Rattle.td_idle.proofs.UnknownRows.{none_deleted}
use Rattle.td_idle.proofs.unknown.are_deletes_known.Goals as goal

pub returns-in-None : goal.returns-in-None
returns-in-None g c = none_deleted c.args.v.now (g.D.Doc.rows c.args.doc.now) c.args.id
    (sym c.delete_at.ensures ∙ c.in-None.is)
