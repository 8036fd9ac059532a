use Rattle.std.proofs.Common.{◌≡◌, ◌∙◌, ◌∷◌, ℕ, List, get_or, ap, sym, subst}
use Rattle.td_list.specs.Items.{Item, IsItem, items_from, items_after, put_at}
use Rattle.td_list.specs.Places.{nothing}
use Rattle.td_list.proofs.Waiting.{item_all, waiting_item, listed_item}
use Rattle.td_list.proofs.buffered.BufferedSequence.get.Goals as goal

pub get-requires : goal.get-requires
get-requires g c = item_all c.self.inside.at c.self.inside.waiting c.self.inside.list c.args.name
    (subst (IsItem c.args.name) (sym c.self.view_is) c.requires) c.in-None.ensures.none

pub returns-in-Some : goal.returns-in-Some
returns-in-Some g c =
    let w : List Item = c.self.inside.waiting in
    let all : List Item = put_at c.self.inside.at w c.self.inside.list in
    subst (λ (xs : List Item). items_from c.args.name xs ≡ c.item.result ∷ items_after c.args.name xs) c.self.view_is
    (waiting_item c.self.inside.at w c.self.inside.list c.self.invariant.new c.args.name c.in-Some.ensures.there
    ∙ ap (λ (i : Item). i ∷ items_after c.args.name all)
    (ap (λ (n : ℕ). get_or w n nothing) (sym c.in-Some.ensures.place) ∙ sym c.item.ensures))

pub returns-in-None : goal.returns-in-None
returns-in-None g c =
    subst (λ (xs : List Item). items_from c.args.name xs ≡ c.get.result ∷ items_after c.args.name xs) c.self.view_is
    (listed_item c.self.inside.at c.self.inside.waiting c.self.inside.list c.args.name c.get.result
    c.in-None.ensures.none c.get.ensures)
