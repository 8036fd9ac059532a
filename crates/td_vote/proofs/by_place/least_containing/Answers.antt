use Rattle.std.proofs.Common.{◌∙◌, rules}
use Rattle.td_path.specs.declared.slot.Slot.{Slot}
use Rattle.td_doc.specs.Slots.{contains_slot}
use Rattle.td_vote.proofs.Placed.{slot_beside}
use Rattle.td_vote.proofs.by_place.least_containing.Goals as goal

pub returns : goal.returns
returns g c =
    let rows = g.D.Doc.rows c.args.doc.now in
    c.least_held.ensures (λ (t : Slot). contains_slot rows t c.args.slot.now) (λ s b k. search rules)
    ∙ slot_beside rows c.args.held.now c.beside.result.now c.args.slot.now c.beside.ensures
