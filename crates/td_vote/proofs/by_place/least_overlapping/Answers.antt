use Rattle.std.proofs.Common.{◌∙◌}
use Rattle.td_vote.proofs.Placed.{least_over}
use Rattle.td_vote.proofs.by_place.least_overlapping.Goals as goal

pub returns : goal.returns
returns g c =
    c.least.ensures
    ∙ least_over (g.D.Doc.rows c.args.doc.now) c.args.held.now c.overlapping.result.now c.args.slot.now
    c.overlapping.ensures
