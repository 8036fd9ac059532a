use Rattle.std.proofs.Common.{◌∙◌, sym}
use Rattle.td_replica.proofs.Atoms.{before_untold}
use Rattle.td_replica.proofs.last_change.live_before.Goals as goal

pub returns-in-None : goal.returns-in-None
returns-in-None g c =
    c.live.ensures
    ∙ sym (before_untold c.args.id (g.D.Doc.rows c.args.doc.now) (sym c.find.ensures ∙ c.in-None.is))
