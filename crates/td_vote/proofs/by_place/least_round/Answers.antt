use Rattle.std.proofs.Common.{◌∙◌, rules}
use Rattle.td_path.specs.declared.slot.Slot.{Slot}
use Rattle.td_doc.specs.Slots.{is_within}
use Rattle.td_vote.proofs.Placed.{row_beside}
use Rattle.td_vote.proofs.by_place.least_round.Goals as goal

pub returns : goal.returns
returns g c =
    let rows = g.D.Doc.rows c.args.doc.now in
    c.least_held.ensures (λ (t : Slot). is_within rows c.args.id t) (λ s b k. search rules)
    ∙ row_beside rows c.args.held.now c.beside.result.now c.requires.apart.document c.args.id c.beside.ensures
