use Rattle.std.proofs.Common.{◌+◌, ◌∙◌, ◌++◌, ℕ, List, take, drop, ap, sym, subst, Option}
use Rattle.td_list.specs.Items.{Item, IsItem, put_at, without}
use Rattle.td_list.specs.Buffered.{IsBuffered}
use Rattle.td_list.proofs.Parted.{take_place, drop_after}
use Rattle.td_list.proofs.Waiting.{item_all, fewer_wait, remove_waiting, remove_listed, end_left, left_list}
use Rattle.td_list.proofs.buffered.BufferedSequence.remove.Goals as goal

pub invariant_of-self : goal.invariant_of-self
invariant_of-self g c =
    let w : List Item = c.self.inside.waiting in
    let x : ℕ = c.args.name in
    let h = c.in-Some.ensures.there in
    subst (λ (xs : List Item). IsBuffered c.self.inside.at xs c.self.inside.list)
    (sym (c.remove.ensures ∙ (λ i. take (c.in-Some.ensures.place i) w ++ drop (c.in-Some.ensures.place i + 1) w)
    ∙ (λ i. take_place x w h i ++ drop_after x w h i)))
    (fewer_wait c.self.inside.at w c.self.inside.list x c.self.invariant)

pub returns-in-Some : goal.returns-in-Some
returns-in-Some g c =
    let w : List Item = c.self.inside.waiting in
    let items : List Item = c.self.inside.list in
    let x : ℕ = c.args.name in
    let h = c.in-Some.ensures.there in
    ap (λ (xs : List Item). put_at c.self.inside.at xs items)
    (c.remove.ensures ∙ (λ i. take (c.in-Some.ensures.place i) w ++ drop (c.in-Some.ensures.place i + 1) w)
    ∙ (λ i. take_place x w h i ++ drop_after x w h i))
    ∙ remove_waiting c.self.inside.at w items c.self.invariant.new x h
    ∙ ap (without x) c.self.view_is

pub end_without-self-inside-requires : goal.end_without-self-inside-requires
end_without-self-inside-requires g c = item_all c.self.inside.at c.self.inside.waiting c.self.inside.list c.args.name
    (subst (IsItem c.args.name) (sym c.self.view_is) c.requires) c.in-None.ensures.none

pub remove-requires-in-None : goal.remove-requires-in-None
remove-requires-in-None g c = item_all c.self.inside.at c.self.inside.waiting c.self.inside.list c.args.name
    (subst (IsItem c.args.name) (sym c.self.view_is) c.requires) c.in-None.ensures.none

pub invariant_of-self-in-None : goal.invariant_of-self-in-None
invariant_of-self-in-None g c =
    let at : Option ℕ = c.self.inside.at in
    let w : List Item = c.self.inside.waiting in
    let items : List Item = c.self.inside.list in
    let there = item_all at w items c.args.name (subst (IsItem c.args.name) (sym c.self.view_is) c.requires)
    c.in-None.ensures.none in
    subst (λ (xs : List Item). IsBuffered c.end_without-self-inside.result w xs) (sym c.remove-in-None.ensures)
    (left_list at w items c.args.name c.end_without-self-inside.result c.self.invariant
    (end_left at c.end_without-self-inside.result w items c.self.invariant.there c.args.name
    c.in-None.ensures.none there
    c.apart.ensures c.end_without-self-inside.ensures.here c.end_without-self-inside.ensures.elsewhere))

pub returns-in-None : goal.returns-in-None
returns-in-None g c =
    let at : Option ℕ = c.self.inside.at in
    let w : List Item = c.self.inside.waiting in
    let items : List Item = c.self.inside.list in
    let there = item_all at w items c.args.name (subst (IsItem c.args.name) (sym c.self.view_is) c.requires)
    c.in-None.ensures.none in
    ap (put_at c.end_without-self-inside.result w) c.remove-in-None.ensures
    ∙ remove_listed at c.end_without-self-inside.result w items c.self.invariant.there c.args.name
    c.in-None.ensures.none there
    c.apart.ensures c.end_without-self-inside.ensures.here c.end_without-self-inside.ensures.elsewhere
    ∙ ap (without c.args.name) c.self.view_is
