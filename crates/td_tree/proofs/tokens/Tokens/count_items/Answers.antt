use Rattle.std.proofs.Common.{◌∙◌, ap, arith, get_or, length}
use Rattle.std.proofs.lemmas.List.{get_or_default}
use Rattle.td_list.specs.Items.{Item}
use Rattle.td_list.specs.Places.{nothing}
use Rattle.td_tree.specs.Reading.{shown_at}
use Rattle.td_tree.proofs.Gathered.{in_place}
use Rattle.td_tree.proofs.CountedRows.{counted_next, counted_within}
use Rattle.td_tree.proofs.tokens.Tokens.count_items.Goals as goal

pub count_item-count-requires-clause-there : goal.count_item-count-requires-clause-there
count_item-count-requires-clause-there c =
    let read = c.item-item.is ∙ get_or_default c.args.items.now c.loop-item.item-index c.item-item.result nothing
    c.loop-item-test.true in
    rw read (c.requires.there (get_or c.args.items.now c.loop-item.item-index nothing)
    (in_place c.args.items.now nothing c.loop-item.item-index c.loop-item-test.true))

pub overflow_add-count : goal.overflow_add-count
overflow_add-count c =
    let read = c.item-item.is ∙ get_or_default c.args.items.now c.loop-item.item-index c.item-item.result nothing
    c.loop-item-test.true in
    let one = c.count_item-count.ensures ∙ ap (λ (i : Item). length (shown_at c.args.self.now i)) read in
    let within = counted_within c.args.self.now c.args.items.now c.loop-item.item-index c.loop-item-test.true in
    omega (arith, c.loop-item.invariant, one, within, c.requires.few)

pub loop-item-preserved : goal.loop-item-preserved
loop-item-preserved c =
    let read = c.item-item.is ∙ get_or_default c.args.items.now c.loop-item.item-index c.item-item.result nothing
    c.loop-item-test.true in
    let one = c.count_item-count.ensures ∙ ap (λ (i : Item). length (shown_at c.args.self.now i)) read in
    let next = counted_next c.args.self.now c.args.items.now c.loop-item.item-index c.loop-item-test.true in
    omega (arith, c.loop-item.invariant, one, next)
