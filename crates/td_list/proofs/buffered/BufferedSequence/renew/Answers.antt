use Rattle.std.proofs.Common.{◌≡◌, ◌+◌, ◌<◌, ◌^◌, ◌∙◌, ◌++◌, ◌∷◌, ℕ, List, take, drop, get_or, ap, sym, subst, arith}
use Rattle.std.proofs.Common.{Option}
use Rattle.td_list.specs.Items.{Item, IsItem, put_at, place_of, renew, weight_of}
use Rattle.td_list.specs.Buffered.{IsBuffered}
use Rattle.td_list.specs.Places.{nothing}
use Rattle.td_list.proofs.Parted.{take_place, drop_after, name_there}
use Rattle.td_list.proofs.Waiting.{item_all, weight_all, renew_waiting, renew_listed, renewed_waits, renewed_list}
use Rattle.td_list.proofs.buffered.BufferedSequence.renew.Goals as goal

-- an item renewed at its place
at_place : (i : Item) (place x : ℕ) (items : List Item) → x ≡ i.name → IsItem x items → place ≡ place_of x items
    → take place items ++ i ∷ drop (place + 1) items ≡ renew i items
at_place i place x items e h p =
    let there : IsItem i.name items = subst (λ (y : ℕ). IsItem y items) e h in
    let q : place ≡ place_of i.name items = p ∙ ap (λ (y : ℕ). place_of y items) e in
    (λ k. take (q k) items ++ i ∷ drop (q k + 1) items)
    ∙ (λ k. take_place i.name items there k ++ i ∷ drop_after i.name items there k)

pub renew-requires-clause-named : goal.renew-requires-clause-named
renew-requires-clause-named g c =
    let w : List Item = c.self.inside.waiting in
    ap (λ (n : ℕ). (get_or w n nothing).name) c.in-Some.ensures.place
    ∙ name_there c.name.result w c.in-Some.ensures.there ∙ c.name.ensures

pub renew-requires-clause-light : goal.renew-requires-clause-light
renew-requires-clause-light g c =
    let at : Option ℕ = c.self.inside.at in
    let w : List Item = c.self.inside.waiting in
    let items : List Item = c.self.inside.list in
    let i : Item = c.args.item in
    let there : IsItem i.name w = subst (λ (y : ℕ). IsItem y w) c.name.ensures c.in-Some.ensures.there in
    let one = ap weight_of (at_place i c.in-Some.place c.name.result w c.name.ensures c.in-Some.ensures.there
    c.in-Some.ensures.place) in
    let two = ap weight_of (renew_waiting at w items c.self.invariant.new i there ∙ ap (renew i) c.self.view_is) in
    let three = weight_all at (renew i w) items in
    omega (arith, c.requires.light)

pub invariant_of-self : goal.invariant_of-self
invariant_of-self g c =
    let at : Option ℕ = c.self.inside.at in
    let w : List Item = c.self.inside.waiting in
    let items : List Item = c.self.inside.list in
    let i : Item = c.args.item in
    let there : IsItem i.name w = subst (λ (y : ℕ). IsItem y w) c.name.ensures c.in-Some.ensures.there in
    subst (λ (xs : List Item). IsBuffered at xs items)
    (sym (c.renew.ensures ∙ at_place i c.in-Some.place c.name.result w c.name.ensures c.in-Some.ensures.there
    c.in-Some.ensures.place))
    (renewed_waits at w items i c.self.invariant there
    (subst (λ (xs : List Item). weight_of xs < 2 ^ 31)
    (sym (renew_waiting at w items c.self.invariant.new i there ∙ ap (renew i) c.self.view_is)) c.requires.light))

pub returns-in-Some : goal.returns-in-Some
returns-in-Some g c =
    let at : Option ℕ = c.self.inside.at in
    let w : List Item = c.self.inside.waiting in
    let items : List Item = c.self.inside.list in
    let i : Item = c.args.item in
    ap (λ (xs : List Item). put_at at xs items)
    (c.renew.ensures ∙ at_place i c.in-Some.place c.name.result w c.name.ensures c.in-Some.ensures.there
    c.in-Some.ensures.place)
    ∙ renew_waiting at w items c.self.invariant.new i
    (subst (λ (y : ℕ). IsItem y w) c.name.ensures c.in-Some.ensures.there)
    ∙ ap (renew i) c.self.view_is

none_named : (x y : ℕ) (items : List Item) → x ≡ y → (IsItem x items → ⊥) → IsItem y items → ⊥
none_named x y items e n h = n (subst (λ (z : ℕ). IsItem z items) (sym e) h)

pub renew-requires-in-None-clause-there : goal.renew-requires-in-None-clause-there
renew-requires-in-None-clause-there g c =
    item_all c.self.inside.at c.self.inside.waiting c.self.inside.list c.args.item.name
    (subst (IsItem c.args.item.name) (sym c.self.view_is) c.requires.there)
    (none_named c.name.result c.args.item.name c.self.inside.waiting c.name.ensures c.in-None.ensures.none)

renewed_value : (at : Option ℕ) (w items all : List Item) (i : Item) (b : IsBuffered at w items)
    → put_at at w items ≡ all → (IsItem i.name w → ⊥) → IsItem i.name all
    → (put_at at w (renew i items) ≡ renew i all) × IsItem i.name items
renewed_value at w items all i b is n h =
    let there : IsItem i.name items = item_all at w items i.name (subst (IsItem i.name) (sym is) h) n in
    (renew_listed at w items b.there i n there ∙ ap (renew i) is, there)

pub renew-requires-in-None-clause-light : goal.renew-requires-in-None-clause-light
renew-requires-in-None-clause-light g c =
    let at : Option ℕ = c.self.inside.at in
    let w : List Item = c.self.inside.waiting in
    let items : List Item = c.self.inside.list in
    let i : Item = c.args.item in
    let v = renewed_value at w items c.args.self.now i c.self.invariant c.self.view_is
    (none_named c.name.result i.name w c.name.ensures c.in-None.ensures.none) c.requires.there in
    let one = ap weight_of v.0 in
    let two = weight_all at w (renew i items) in
    omega (arith, c.requires.light)

pub invariant_of-self-in-None : goal.invariant_of-self-in-None
invariant_of-self-in-None g c =
    let at : Option ℕ = c.self.inside.at in
    let w : List Item = c.self.inside.waiting in
    let items : List Item = c.self.inside.list in
    let i : Item = c.args.item in
    let v = renewed_value at w items c.args.self.now i c.self.invariant c.self.view_is
    (none_named c.name.result i.name w c.name.ensures c.in-None.ensures.none) c.requires.there in
    subst (λ (xs : List Item). IsBuffered at w xs) (sym c.renew-in-None.ensures)
    (renewed_list at w items i c.self.invariant v.1
    (subst (λ (xs : List Item). weight_of xs < 2 ^ 31) (sym v.0) c.requires.light))

pub returns-in-None : goal.returns-in-None
returns-in-None g c =
    let at : Option ℕ = c.self.inside.at in
    let w : List Item = c.self.inside.waiting in
    let items : List Item = c.self.inside.list in
    let i : Item = c.args.item in
    ap (put_at at w) c.renew-in-None.ensures
    ∙ (renewed_value at w items c.args.self.now i c.self.invariant c.self.view_is
    (none_named c.name.result i.name w c.name.ensures c.in-None.ensures.none) c.requires.there).0
