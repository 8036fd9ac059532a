use Rattle.std.proofs.Common.{◌-◌, ◌∙◌, List, take, drop, ap, arith}
use Rattle.td_list.specs.Items.{Item, weight_of, has_mark}
use Rattle.td_list.proofs.Weights.{weight-cut, weight-lay}
use Rattle.td_list.proofs.chunk.Chunk.lay.Goals as goal

pub weight_of-gone-requires : goal.weight_of-gone-requires
weight_of-gone-requires c =
    let items = c.self.inside.items.items in
    let read = ap (λ (q : List Item). weight_of (take (c.args.to - c.args.from) (drop c.args.from q)))
    c.deref.ensures.value in
    let parts = weight-cut c.args.from c.args.to items (omega (arith, c.requires.long)) in
    omega (arith, c.self.invariant.0, c.self.ranges)

pub overflow_sub-self : goal.overflow_sub-self
overflow_sub-self c =
    let items = c.self.inside.items.items in
    let read = ap (λ (q : List Item). weight_of (take (c.args.to - c.args.from) (drop c.args.from q)))
    c.deref.ensures.value in
    let parts = weight-cut c.args.from c.args.to items (omega (arith, c.requires.long)) in
    omega (arith, c.self.invariant.0, c.weight_of-gone.ensures)

pub overflow_add-self : goal.overflow_add-self
overflow_add-self c =
    let heavy = ap weight_of c.self.view_is in
    omega (arith, c.self.invariant.0, c.weight_of.ensures, c.requires.light)

pub invariant_of-self : goal.invariant_of-self
invariant_of-self c =
    let items = c.self.inside.items.items in
    let read = ap (λ (q : List Item). weight_of (take (c.args.to - c.args.from) (drop c.args.from q)))
    c.deref.ensures.value in
    let parts = weight-lay c.args.from c.args.to items c.args.over.now (omega (arith, c.requires.long)) in
    let less = weight-cut c.args.from c.args.to items (omega (arith, c.requires.long)) in
    let now = ap weight_of c.lay_over.ensures in
    let heavy = ap weight_of c.self.view_is in (
      omega (arith, c.self.invariant.0, c.weight_of-gone.ensures, c.weight_of.ensures),
      c.has_mark-self-inside.ensures ∙ ap has_mark c.deref-2.ensures.value,
      omega (arith, c.self.invariant.0, c.weight_of-gone.ensures, c.weight_of.ensures, c.requires.light),
    )
