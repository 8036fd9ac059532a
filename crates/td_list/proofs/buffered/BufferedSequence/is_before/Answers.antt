use Rattle.std.proofs.Common.{◌+◌, ◌∙◌, ℕ, List, length, nat_lt, ap, sym, subst}
use Rattle.td_list.specs.Items.{Item, IsItem, items_before_end, put_at, place_of}
use Rattle.td_list.proofs.Waiting.{item_all, place_waiting}
use Rattle.td_list.proofs.buffered.BufferedSequence.is_before.Goals as goal

pub waits_before-requires-clause-there : goal.waits_before-requires-clause-there
waits_before-requires-clause-there g c = subst (IsItem c.args.second) (sym c.self.view_is) c.requires.second

pub is_listed_before-requires-clause-there : goal.is_listed_before-requires-clause-there
is_listed_before-requires-clause-there g c = subst (IsItem c.args.second) (sym c.self.view_is) c.requires.second

pub is_listed_before-requires-clause-first : goal.is_listed_before-requires-clause-first
is_listed_before-requires-clause-first g c =
    item_all c.self.inside.at c.self.inside.waiting c.self.inside.list c.args.first
    (subst (IsItem c.args.first) (sym c.self.view_is) c.requires.first) c.in-None.ensures.none

pub returns-in-Some : goal.returns-in-Some
returns-in-Some g c =
    let w : List Item = c.self.inside.waiting in
    let items : List Item = c.self.inside.list in
    let all : List Item = put_at c.self.inside.at w items in
    c.waits_before.ensures
    ∙ ap (λ (n : ℕ). nat_lt (length (items_before_end c.self.inside.at items) + n) (place_of c.args.second all))
    c.in-Some.ensures.place
    ∙ ap (λ (n : ℕ). nat_lt n (place_of c.args.second all))
    (sym (place_waiting c.self.inside.at w items c.self.invariant.new c.args.first c.in-Some.ensures.there))
    ∙ ap (λ (xs : List Item). nat_lt (place_of c.args.first xs) (place_of c.args.second xs)) c.self.view_is

pub returns-in-None : goal.returns-in-None
returns-in-None g c = c.is_listed_before.ensures
    ∙ ap (λ (xs : List Item). nat_lt (place_of c.args.first xs) (place_of c.args.second xs)) c.self.view_is
