use Rattle.std.proofs.Common.{◌+◌, ◌∙◌, ◌++◌, ℕ, List, drop, ap, sym, subst}
use Rattle.td_list.specs.Items.{Item, IsItem, items_after, items_from_end, first_name}
use Rattle.td_list.proofs.Parted.{drop_after}
use Rattle.td_list.proofs.Waiting.{item_all, back_first, after_waiting, next_listed}
use Rattle.td_list.proofs.buffered.Buffered.next_of.Goals as goal

pub next-requires : goal.next-requires
next-requires g c = item_all c.self.inside.at c.self.inside.waiting c.self.inside.list c.args.name
    (subst (IsItem c.args.name) (sym c.self.view_is) c.requires) c.in-None.ensures.none

pub returns-in-Some : goal.returns-in-Some
returns-in-Some g c =
    let w : List Item = c.self.inside.waiting in
    let items : List Item = c.self.inside.list in
    let k : List Item = items_from_end c.self.inside.at items in
    c.from_waiting.ensures k (back_first c.self.inside.at items c.self.invariant.there)
    ∙ ap (λ (n : ℕ). first_name (drop (n + 1) w ++ k)) c.in-Some.ensures.place
    ∙ ap (λ (xs : List Item). first_name (xs ++ k)) (drop_after c.args.name w c.in-Some.ensures.there)
    ∙ ap first_name (sym (after_waiting c.self.inside.at w items c.self.invariant.new c.args.name
    c.in-Some.ensures.there))
    ∙ ap (λ (xs : List Item). first_name (items_after c.args.name xs)) c.self.view_is

pub returns-in-None : goal.returns-in-None
returns-in-None g c =
    let w : List Item = c.self.inside.waiting in
    let items : List Item = c.self.inside.list in
    next_listed c.self.inside.at w items c.self.invariant.there c.apart.ensures c.args.name c.in-None.ensures.none
    (item_all c.self.inside.at w items c.args.name (subst (IsItem c.args.name) (sym c.self.view_is) c.requires)
    c.in-None.ensures.none)
    c.next.result c.or_waiting.result c.next.ensures c.or_waiting.ensures.here c.or_waiting.ensures.elsewhere
    ∙ ap (λ (xs : List Item). first_name (items_after c.args.name xs)) c.self.view_is
