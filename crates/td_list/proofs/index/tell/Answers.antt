use Rattle.std.proofs.Common.{◌≡◌, ◌∙◌, ◌++◌, List, refl, ap, sym}
use Rattle.td_list.specs.Items.{Item, items_before, renew}
use Rattle.td_list.proofs.Parted.{parts}
use Rattle.td_list.proofs.index.tell.Goals as goal

pub returns-else-not-is_same : goal.returns-else-not-is_same
returns-else-not-is_same g c =
    let order : List Item = g.S.Sequence.items c.args.order.now in
    let same : c.args.told ≡ c.args.now = c.if-not-is_same.ensures.0 refl in
    sym (parts c.args.told.name order) ∙ ap (λ (rest : List Item). items_before c.args.told.name order ++ rest)
    c.requires.is
    ∙ ap (λ (item : Item). renew item order) same
