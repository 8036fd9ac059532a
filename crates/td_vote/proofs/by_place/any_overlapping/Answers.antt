use Rattle.std.proofs.Common.{◌∙◌}
use Rattle.td_vote.proofs.Placed.{any_beside}
use Rattle.td_vote.proofs.by_place.any_overlapping.Goals as goal

pub returns : goal.returns
returns g c =
    c.any_overlaps.ensures
    ∙ any_beside (g.D.Doc.rows c.args.doc.now) c.args.held.now c.beside.result.now c.args.slot.now c.beside.ensures
