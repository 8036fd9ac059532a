use Rattle.std.proofs.Common.{◌≡◌, ◌<◌, ◌∙◌, ◌∷◌, ℕ, List, length, get_or, ap, sym, subst}
use Rattle.std.proofs.lemmas.List.{get_or_default}
use Rattle.td_list.specs.Items.{Item, items_after}
use Rattle.td_list.specs.Places.{nothing}
use Rattle.td_list.proofs.Parted.{there_is}
use Rattle.td_list.proofs.line.LineSequence.get.Goals as goal

pub returns : goal.returns
returns c =
    let xs = c.args.self.now in
    let inside = c.self.inside.items.items in
    let within : c.place.result < length inside = subst (λ (q : List Item). c.place.result < length q)
    (sym c.self.view_is) c.place.ensures.bound in
    let read : c.index.result.now ≡ get_or xs c.place.result nothing =
    c.index.ensures ∙ get_or_default inside c.place.result c.index.result.now nothing within
    ∙ ap (λ (q : List Item). get_or q c.place.result nothing) c.self.view_is in
    there_is c.args.name xs c.requires ∙ (λ i. (ap (λ (n : ℕ). get_or xs n nothing) (sym c.place.ensures.value)
    ∙ sym read) i ∷ items_after c.args.name xs)
