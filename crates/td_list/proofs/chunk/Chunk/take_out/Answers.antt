use Rattle.std.proofs.Common.{◌-◌, ◌∙◌, List, take, drop, ap, arith}
use Rattle.td_list.specs.Items.{Item, weight_of, has_mark}
use Rattle.td_list.proofs.Weights.{weight-cut}
use Rattle.td_list.proofs.chunk.Chunk.take_out.Goals as goal

pub weight_of-requires : goal.weight_of-requires
weight_of-requires c =
    let items = c.self.inside.items.items in
    let read = ap (λ (q : List Item). weight_of (take (c.args.to - c.args.from) (drop c.args.from q)))
    c.deref.ensures.value in
    let parts = weight-cut c.args.from c.args.to items c.requires.from in
    omega (arith, c.self.invariant.0, c.self.ranges)

pub overflow_sub-self : goal.overflow_sub-self
overflow_sub-self c =
    let items = c.self.inside.items.items in
    let read = ap (λ (q : List Item). weight_of (take (c.args.to - c.args.from) (drop c.args.from q)))
    c.deref.ensures.value in
    let parts = weight-cut c.args.from c.args.to items c.requires.from in
    omega (arith, c.self.invariant.0, c.weight_of.ensures)

pub invariant_of-self : goal.invariant_of-self
invariant_of-self c =
    let items = c.self.inside.items.items in
    let read = ap (λ (q : List Item). weight_of (take (c.args.to - c.args.from) (drop c.args.from q)))
    c.deref.ensures.value in
    let parts = weight-cut c.args.from c.args.to items c.requires.from in
    let left = ap weight_of c.take_out.ensures in (
      omega (arith, c.self.invariant.0, c.weight_of.ensures),
      c.has_mark-self-inside.ensures ∙ ap has_mark c.deref-2.ensures.value,
      omega (arith, c.self.invariant.2),
    )
