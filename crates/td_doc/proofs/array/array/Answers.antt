use Rattle.std.proofs.Common.{◌∙◌, arith}
use Rattle.std.proofs.lemmas.List.{take_all}
use Rattle.td_doc.specs.Array.{array}
use Rattle.td_doc.proofs.ArrayPlaces.{length_array, next_row}
use Rattle.td_doc.proofs.array.array.Goals as goal

pub loop-place-preserved : goal.loop-place-preserved
loop-place-preserved c =
    c.in_ok-push.ensures.items ∙ next_row (array c.args.slot.now c.args.atoms.now) c.loop-place.rows.items
    c.loop-place.place c.in_ok-array_row.field-0 c.loop-place.invariant c.in_ok-array_row.ensures

pub returns : goal.returns
returns c =
    let slot = c.args.slot.now in
    let atoms = c.args.atoms.now in
    c.loop-place.invariant ∙ take_all c.loop-place.place (array slot atoms)
    (omega (arith, length_array slot atoms, c.loop-place-test.false))
