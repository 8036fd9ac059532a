use Rattle.std.proofs.Common.{◌+◌, ◌∙◌, ℕ, List, take, ap, sym, subst, arith}
use Rattle.td_list.specs.Items.{Item, IsItem, items_before, items_before_end, items_from_end, weight_of}
use Rattle.td_list.proofs.Names.{weight-append, weight-parts}
use Rattle.td_list.proofs.Parted.{take_place}
use Rattle.td_list.proofs.Waiting.{item_all, before_waiting, front_back}
use Rattle.td_list.proofs.buffered.BufferedSequence.weight_before.Goals as goal

pub overflow_add-result : goal.overflow_add-result
overflow_add-result g c =
    let w : List Item = c.self.inside.waiting in
    let items : List Item = c.self.inside.list in
    let at = c.self.inside.at in
    let one = ap weight_of (front_back at items) in
    let two = weight-append (items_before_end at items) (items_from_end at items) in
    let three = weight-parts c.in-Some.place w in
    omega (arith, c.weight_of_front.ensures, c.weight_to.ensures, c.self.invariant.light)

pub returns-in-Some : goal.returns-in-Some
returns-in-Some g c =
    let w : List Item = c.self.inside.waiting in
    let items : List Item = c.self.inside.list in
    let at = c.self.inside.at in
    (λ i. c.weight_of_front.ensures i + (c.weight_to.ensures
    ∙ ap (λ (n : ℕ). weight_of (take n w)) c.in-Some.ensures.place
    ∙ ap weight_of (take_place c.args.name w c.in-Some.ensures.there)) i)
    ∙ sym (ap weight_of (before_waiting at w items c.self.invariant.new c.args.name c.in-Some.ensures.there)
    ∙ weight-append (items_before_end at items) (items_before c.args.name w))
    ∙ ap (λ (xs : List Item). weight_of (items_before c.args.name xs)) c.self.view_is

pub weight_before_listed-requires-clause-there : goal.weight_before_listed-requires-clause-there
weight_before_listed-requires-clause-there g c =
    item_all c.self.inside.at c.self.inside.waiting c.self.inside.list c.args.name
    (subst (IsItem c.args.name) (sym c.self.view_is) c.requires) c.in-None.ensures.none

pub returns-in-None : goal.returns-in-None
returns-in-None g c = c.weight_before_listed.ensures
    ∙ ap (λ (xs : List Item). weight_of (items_before c.args.name xs)) c.self.view_is
