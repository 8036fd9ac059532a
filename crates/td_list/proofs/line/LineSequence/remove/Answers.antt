use Rattle.std.proofs.Common.{◌≡◌, ◌<◌, ◌+◌, ◌∙◌, ◌++◌, List, length, ap, take, drop, sym, subst, arith}
use Rattle.std.proofs.lemmas.List.{get_or_default}
use Rattle.td_list.specs.Items.{Item, weight_of, AreApart}
use Rattle.td_list.specs.Places.{nothing, ArePlaces}
use Rattle.td_list.proofs.Parted.{take_place, drop_after}
use Rattle.td_list.proofs.Names.{remove-apart}
use Rattle.td_list.proofs.Weights.{weight-remove}
use Rattle.td_list.proofs.Lines.{line_apart}
use Rattle.td_list.proofs.line.LineSequence.remove.Goals as goal

pub note-requires-clause-apart : goal.note-requires-clause-apart
note-requires-clause-apart c =
    subst AreApart (sym (c.deref.ensures.value ∙ c.remove-item.ensures.by_index.2))
    (remove-apart c.place-place.result c.self.inside.items.items
    (line_apart c.self.inside.items.items c.self.inside.places.items c.self.invariant.0.each))

pub overflow_sub-self : goal.overflow_sub-self
overflow_sub-self c =
    let items = c.self.inside.items.items in
    let long = ap (λ (q : List Item). length q) c.self.view_is in
    let within : c.place-place.result < length items = omega (arith, c.place-place.ensures.bound) in
    let read = ap (λ (i : Item). i.weight) (c.remove-item.ensures.value
    ∙ get_or_default items c.place-place.result c.remove-item.result nothing within) in
    let s = weight-remove items c.place-place.result within in
    omega (arith, c.self.invariant.1)

pub invariant_of-self : goal.invariant_of-self
invariant_of-self c =
    let items = c.self.inside.items.items in
    let place = c.place-place.result in
    let long = ap (λ (q : List Item). length q) c.self.view_is in
    let within : place < length items = omega (arith, c.place-place.ensures.bound) in
    let read = ap (λ (i : Item). i.weight) (c.remove-item.ensures.value
    ∙ get_or_default items place c.remove-item.result nothing within) in
    let s = weight-remove items place within in
    let now : c.remove-item.new.self.items ≡ take place items
    ++ drop (place + 1) items = c.remove-item.ensures.by_index.2 in
    let left = ap weight_of now in
    let fewer : length c.remove-item.new.self.items + 1
    ≡ length items = omega (
      arith,
      c.remove-item.ensures.len,
      c.remove-item.new.self.ok.0,
      c.self.inside.items.ok.0,
    ) in
    let is : c.deref.result.now ≡ c.remove-item.new.self.items = c.deref.ensures.value in (
      record {
        each = subst (λ (q : List Item). ArePlaces q c.note.new.places.items) is c.note.ensures;
        few = let f = c.self.invariant.0.few in omega arith;
        light = let f = c.self.invariant.0.light in omega arith;
      },
      omega (arith, c.self.invariant.1),
    )

pub returns : goal.returns
returns c =
    let items = c.self.inside.items.items in
    let now : c.remove-item.new.self.items ≡ take c.place-place.result items
    ++ drop (c.place-place.result + 1) items = c.remove-item.ensures.by_index.2 in
    now ∙ (λ i. take (c.place-place.ensures.value i) (c.self.view_is i)
    ++ drop (c.place-place.ensures.value i + 1) (c.self.view_is i))
    ∙ (λ i. take_place c.args.name c.args.self.now c.requires i ++ drop_after c.args.name c.args.self.now c.requires i)
