use Rattle.std.proofs.Common.{◌<◌, ◌++◌, ◌∷◌, ◌+◌, ◌∙◌, List, length, take, drop, ap, arith, get_or, sym}
use Rattle.std.proofs.lemmas.List.{get_or_default}
use Rattle.td_list.specs.Items.{Item, weight_of, has_mark}
use Rattle.td_list.specs.Places.{nothing}
use Rattle.td_list.proofs.Marks.{mark-renew, same_marks}
use Rattle.td_list.proofs.Weights.{weight-renew, set_there}
use Rattle.td_list.proofs.chunk.Chunk.renew.Goals.{then-marked, else-marked}
use Rattle.td_list.proofs.chunk.Chunk.renew.Goals as goal

pub overflow_sub-self : goal.overflow_sub-self
overflow_sub-self c =
    let items = c.self.inside.items.items in
    let below = ap (λ (q : List Item). length q) c.self.view_is in
    let read = c.weight.ensures ∙ ap (λ (i : Item). i.weight)
    (c.index.ensures ∙ get_or_default items c.args.place c.index.result.now nothing
    (omega (arith, c.requires.place))) in
    let s = weight-renew items c.args.place nothing (omega (arith, c.requires.place)) in
    omega (arith, c.self.invariant.0)

pub overflow_add-self : goal.overflow_add-self
overflow_add-self c =
    let items = c.self.inside.items.items in
    let below = ap (λ (q : List Item). length q) c.self.view_is in
    let heavy = ap weight_of c.self.view_is in
    let read = c.weight.ensures ∙ ap (λ (i : Item). i.weight)
    (c.index.ensures ∙ get_or_default items c.args.place c.index.result.now nothing
    (omega (arith, c.requires.place))) in
    let s = weight-renew items c.args.place nothing (omega (arith, c.requires.place)) in
    let same = ap (λ (q : List Item). (get_or q c.args.place nothing).weight) c.self.view_is in
    omega (arith, c.self.invariant.0, c.weight-2.ensures, c.requires.light)

pub invariant_of-self : goal.invariant_of-self
invariant_of-self c =
    let items = c.self.inside.items.items in
    let below = ap (λ (q : List Item). length q) c.self.view_is in
    let within : c.args.place < length items = omega (arith, c.requires.place) in
    let was = c.index.ensures ∙ get_or_default items c.args.place c.index.result.now nothing within in
    let read = c.weight.ensures ∙ ap (λ (i : Item). i.weight) was in
    let s = weight-renew items c.args.place c.args.item within in
    let none = weight-renew items c.args.place nothing within in
    let now = ap weight_of (set_there items c.args.place c.args.item within) in
    let heavy = ap weight_of c.self.view_is in
    let same = ap (λ (q : List Item). (get_or q c.args.place nothing).weight) c.self.view_is in
    elim c.if-marked.branch [
      | then-marked w ↦ rw w.self-inside-is (
        omega (arith, c.self.invariant.0, c.weight-2.ensures),
        w.has_mark-self-inside.ensures ∙ ap has_mark w.deref.ensures.value,
        omega (arith, c.self.invariant.0, c.weight-2.ensures, c.requires.light),
      )
      | else-marked w ↦ rw w.self-inside-is (
        omega (arith, c.self.invariant.0, c.weight-2.ensures),
        c.self.invariant.1
            ∙ mark-renew items c.args.place c.args.item nothing within
            (sym c.marked.ensures ∙ same_marks c.marked.result c.marked-2.result w.if-marked.false
            ∙ c.marked-2.ensures ∙ ap (λ (i : Item). i.marked) was),
        omega (arith, c.self.invariant.0, c.weight-2.ensures, c.requires.light),
      )
    ]

pub returns : goal.returns
returns c =
    let items = c.self.inside.items.items in
    let below = ap (λ (q : List Item). length q) c.self.view_is in
    let done = set_there items c.args.place c.args.item (omega (arith, c.requires.place))
    ∙ ap (λ (q : List Item). take c.args.place q ++ c.args.item ∷ drop (c.args.place + 1) q) c.self.view_is in
    elim c.if-marked.branch [
      | then-marked w ↦ rw w.self-inside-is done
      | else-marked w ↦ rw w.self-inside-is done
    ]
