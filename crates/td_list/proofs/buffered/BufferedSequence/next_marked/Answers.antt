use Rattle.std.proofs.Common.{◌+◌, ◌∙◌, ◌++◌, ℕ, List, drop, ap, sym, subst}
use Rattle.td_list.specs.Items.{Item, IsItem, items_after, items_from_end, first_marked}
use Rattle.td_list.proofs.Parted.{drop_after}
use Rattle.td_list.proofs.Waiting.{item_all, after_waiting}
use Rattle.td_list.proofs.buffered.BufferedSequence.next_marked.Goals as goal

pub next_marked-mark-requires : goal.next_marked-mark-requires
next_marked-mark-requires g c = item_all c.self.inside.at c.self.inside.waiting c.self.inside.list c.args.name
    (subst (IsItem c.args.name) (sym c.self.view_is) c.requires) c.in-None.ensures.none

pub or_mark-requires-clause-there : goal.or_mark-requires-clause-there
or_mark-requires-clause-there g c = item_all c.self.inside.at c.self.inside.waiting c.self.inside.list c.args.name
    (subst (IsItem c.args.name) (sym c.self.view_is) c.requires) c.in-None.ensures.none

pub returns-in-Some : goal.returns-in-Some
returns-in-Some g c =
    let w : List Item = c.self.inside.waiting in
    let items : List Item = c.self.inside.list in
    let k : List Item = items_from_end c.self.inside.at items in
    c.mark_from.ensures
    ∙ ap (λ (n : ℕ). first_marked (drop (n + 1) w ++ k)) c.in-Some.ensures.place
    ∙ ap (λ (xs : List Item). first_marked (xs ++ k)) (drop_after c.args.name w c.in-Some.ensures.there)
    ∙ ap first_marked (sym (after_waiting c.self.inside.at w items c.self.invariant.new c.args.name
    c.in-Some.ensures.there))
    ∙ ap (λ (xs : List Item). first_marked (items_after c.args.name xs)) c.self.view_is

pub returns-in-None : goal.returns-in-None
returns-in-None g c = c.or_mark.ensures
    ∙ ap (λ (xs : List Item). first_marked (items_after c.args.name xs)) c.self.view_is
