use Rattle.std.proofs.Common.{◌≡◌, ◌∙◌, ◌∷◌, List, sym, subst}
use Rattle.td_list.specs.Items.{Item, items_from, items_after, renew}
use Rattle.td_list.proofs.Reweighed.{item_pending, item_told}
use Rattle.td_list.proofs.deferred.Pending.get.Goals as goal

pub returns-then-name : goal.returns-then-name
returns-then-name g c =
    let items : List Item = g.S.Sequence.items c.args.list.now in
    subst (λ x. items_from x (renew c.args.self.item items)
    ≡ c.args.self.item ∷ items_after x (renew c.args.self.item items)) (sym c.name.ensures ∙ c.if-name.true)
    (item_pending c.args.self items c.requires.pending)

pub returns-else-name : goal.returns-else-name
returns-else-name g c =
    let items : List Item = g.S.Sequence.items c.args.list.now in
    item_told c.args.self items c.requires.pending c.args.name c.get.result
    (λ e. c.if-name.false (c.name.ensures ∙ sym e)) c.get.ensures
