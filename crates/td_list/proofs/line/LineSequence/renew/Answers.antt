use Rattle.std.proofs.Common.{◌≡◌, ◌<◌, ◌+◌, ◌∙◌, ◌++◌, ◌∷◌, ℕ, List, length, get_or}
use Rattle.std.proofs.Common.{set, ap, take, drop, sym, subst, arith}
use Rattle.std.proofs.lemmas.List.{get_or_default, length-set}
use Rattle.td_list.specs.Items.{Item, weight_of, place_of, IsItem, renew}
use Rattle.td_list.specs.Places.{nothing}
use Rattle.td_list.proofs.Parted.{take_place, drop_after, name_there}
use Rattle.td_list.proofs.Weights.{weight-renew, set_there}
use Rattle.td_list.proofs.Lines.{line_renewed}
use Rattle.td_list.proofs.line.LineSequence.renew.Goals as goal
use Rattle.td_list.proofs.line.LineSequence.renew.Goals.{After-index}

record Here (c : After-index) : Type 0 where
  within : c.place-place.result < length c.self.inside.items.items
  weight : c.index.result.now.weight ≡ (get_or c.self.inside.items.items c.place-place.result nothing).weight
  named : c.args.item.name ≡ (get_or c.self.inside.items.items c.place-place.result nothing).name
  total : weight_of (set c.self.inside.items.items c.place-place.result c.args.item) + (get_or
      c.self.inside.items.items c.place-place.result nothing).weight
      ≡ weight_of c.self.inside.items.items + c.args.item.weight
  is : set c.self.inside.items.items c.place-place.result c.args.item ≡ renew c.args.item c.args.self.now

here : (c : After-index) → Here c
here c =
    let items = c.self.inside.items.items in
    let place = c.place-place.result in
    let x = c.args.item.name in
    let long = ap (λ (q : List Item). length q) c.self.view_is in
    let within : place < length items = omega (arith, c.place-place.ensures.bound) in
    let there : IsItem x items = subst (IsItem x) (sym c.self.view_is) c.requires.there in
    let seat = c.place-place.ensures.value ∙ ap (λ (n : ℕ). place_of n c.args.self.now) c.name.ensures in
    let at : place ≡ place_of x items = seat ∙ ap (place_of x) (sym c.self.view_is) in
    record {
      within = within;
      weight = ap (λ (i : Item). i.weight) (c.index.ensures
          ∙ get_or_default items place c.index.result.now nothing within);
      named = sym (ap (λ (n : ℕ). (get_or items n nothing).name) at ∙ name_there x items there);
      total = ap (λ (q : List Item). weight_of q + (get_or items place nothing).weight)
          (set_there items place c.args.item within) ∙ weight-renew items place c.args.item within;
      is = set_there items place c.args.item within
          ∙ (λ i. take (seat i) (c.self.view_is i) ++ c.args.item ∷ drop (seat i + 1) (c.self.view_is i))
          ∙ (λ i. take_place x c.args.self.now c.requires.there i
          ++ c.args.item ∷ drop_after x c.args.self.now c.requires.there i);
    }

pub overflow_sub-self : goal.overflow_sub-self
overflow_sub-self c =
    let items = c.self.inside.items.items in
    let h = here (goal.at.overflow_sub-self c).After-index in
    let s = weight-renew items c.place-place.result nothing h.within in
    omega (arith, c.self.invariant.1, c.weight.ensures, h.weight)

pub overflow_add-self : goal.overflow_add-self
overflow_add-self c =
    let h = here (goal.at.overflow_add-self c).After-index in
    let now = ap weight_of h.is in
    let s = weight-renew c.self.inside.items.items c.place-place.result nothing h.within in
    omega (arith, c.self.invariant.1, c.weight.ensures, c.weight-2.ensures, h.weight, h.total, c.requires.light)

pub invariant_of-self : goal.invariant_of-self
invariant_of-self c =
    let items = c.self.inside.items.items in
    let h = here (goal.at.invariant_of-self c).After-index in
    let now = ap weight_of h.is in
    let s = weight-renew items c.place-place.result nothing h.within in (
      record {
        each = line_renewed items c.self.inside.places.items c.place-place.result c.args.item c.self.invariant.0.each
            h.within h.named;
        few = let f = c.self.invariant.0.few in let e = length-set items c.place-place.result c.args.item in
            omega arith;
        light = omega (arith, c.requires.light);
      },
      omega (arith, c.self.invariant.1, c.weight.ensures, c.weight-2.ensures, h.weight, h.total),
    )

pub returns : goal.returns
returns c = (here (goal.at.returns c).After-index).is
