use Rattle.std.proofs.Common.{true, ◌∙◌, sym}
use Rattle.td_replica.proofs.Told.{cut_told}
use Rattle.td_replica.proofs.state.delete_row.Goals as goal

pub returns-in-Ok-clause-change : goal.returns-in-Ok-clause-change
returns-in-Ok-clause-change g c = λ ops.
    rw c.in-Ok.ensures.ok.1
    (cut_told c.args.target c.args.dot (g.D.Doc.rows c.args.doc.now) ops true
    (sym c.if-was_live.true ∙ c.is_live-was_live.ensures))
