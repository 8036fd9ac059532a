use Rattle.std.proofs.Common.{◌<◌, ◌∙◌, ℕ, ap, subst, sym, length, get_or}
use Rattle.std.proofs.lemmas.List.{get_or_default, length-set}
use Rattle.td_list.specs.Items.{Item}
use Rattle.td_list.specs.Places.{nothing}
use Rattle.td_list.proofs.Lines.{one_noted}
use Rattle.td_list.proofs.line.note.Goals as goal

pub loop-place-preserved : goal.loop-place-preserved
loop-place-preserved c =
    let places = c.loop-place.places.items in
    let items = c.args.items.now in
    let p = c.loop-place.place in
    let named = c.name.ensures ∙ ap (λ (i : Item). i.name)
    (c.index-items-place.is ∙ get_or_default items p c.index-items-place.result nothing c.loop-place-test.true) in
    let fits : (get_or items p nothing).name < length places =
    subst (λ (n : ℕ). (get_or items p nothing).name < n) (sym c.loop-place.invariant.long)
    (c.requires.within p c.loop-place-test.true) in
    rw named (record {
      long = length-set places (get_or items p nothing).name p ∙ c.loop-place.invariant.long;
      noted = one_noted items places p c.requires.apart c.loop-place-test.true fits c.loop-place.invariant.noted;
    })
