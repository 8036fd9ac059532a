use Rattle.std.proofs.Common.{◌≡◌, ◌-◌, ℕ, List, length, take, drop, ap, arith}
use Rattle.std.proofs.lemmas.List.{take_rest}
use Rattle.td_list.specs.Items.{Item, weight_of}
use Rattle.td_list.proofs.Names.{weight-parts}
use Rattle.td_list.proofs.chunk.Chunk.weight_to.Goals as goal

-- the items from a place on, as a slice has them
rest : (place : ℕ) (items : List Item) → weight_of (take (length items - place) (drop place items))
    ≡ weight_of (drop place items)
rest place items = ap weight_of (take_rest items place)

pub weight_of-requires : goal.weight_of-requires
weight_of-requires c =
    let items = c.self.inside.items.items in
    let read = ap (λ (q : List Item). weight_of (take (length q - c.args.place) (drop c.args.place q)))
    c.deref.ensures.value in
    let behind = rest c.args.place items in
    let parts = weight-parts c.args.place items in
    let light = ap weight_of c.self.view_is in
    omega (arith, c.requires.light)

pub overflow_sub-result : goal.overflow_sub-result
overflow_sub-result c =
    let items = c.self.inside.items.items in
    let read = ap (λ (q : List Item). weight_of (take (length q - c.args.place) (drop c.args.place q)))
    c.deref.ensures.value in
    let behind = rest c.args.place items in
    let parts = weight-parts c.args.place items in
    omega (arith, c.self.invariant.0, c.weight_of.ensures)

pub weight_of-requires-else-place-len : goal.weight_of-requires-else-place-len
weight_of-requires-else-place-len c =
    let items = c.self.inside.items.items in
    let read = ap (λ (q : List Item). weight_of (take c.args.place q)) c.deref-else-place-len.ensures.value in
    let parts = weight-parts c.args.place items in
    let light = ap weight_of c.self.view_is in
    omega (arith, c.requires.light)

pub returns-then-place-len : goal.returns-then-place-len
returns-then-place-len c =
    let items = c.self.inside.items.items in
    let read = ap (λ (q : List Item). weight_of (take (length q - c.args.place) (drop c.args.place q)))
    c.deref.ensures.value in
    let behind = rest c.args.place items in
    let parts = weight-parts c.args.place items in
    let seen = ap (λ (q : List Item). weight_of (take c.args.place q)) c.self.view_is in
    omega (arith, c.self.invariant.0, c.weight_of.ensures)
