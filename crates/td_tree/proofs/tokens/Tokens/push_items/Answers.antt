use Rattle.std.proofs.Common.{◌∙◌, ◌++◌, get_or, ap}
use Rattle.std.proofs.lemmas.List.{get_or_default}
use Rattle.td_list.specs.Items.{Item}
use Rattle.td_list.specs.Places.{nothing}
use Rattle.td_brackets.specs.RowNumbers.{text_of_numbers}
use Rattle.td_tree.specs.Parts.{table}
use Rattle.td_tree.specs.Reading.{shown_at}
use Rattle.td_tree.proofs.Gathered.{in_place}
use Rattle.td_tree.proofs.Texts.{more_items}
use Rattle.td_tree.proofs.tokens.Tokens.push_items.Goals as goal

pub push_item-requires-clause-there : goal.push_item-requires-clause-there
push_item-requires-clause-there c =
    let read = c.item-item.is ∙ get_or_default c.args.items.now c.loop-item.item-index c.item-item.result nothing
    c.loop-item-test.true in
    rw read (c.requires.there (get_or c.args.items.now c.loop-item.item-index nothing)
    (in_place c.args.items.now nothing c.loop-item.item-index c.loop-item-test.true))

pub loop-item-preserved : goal.loop-item-preserved
loop-item-preserved c =
    let read = c.item-item.is ∙ get_or_default c.args.items.now c.loop-item.item-index c.item-item.result nothing
    c.loop-item-test.true in
    more_items c.args.self.now c.args.items.now c.loop-item.item-index c.loop-item-test.true c.args.text.now
    c.loop-item.text c.push_item.new.text c.loop-item.invariant
    (c.in_ok-push_item.ensures.ok ∙ ap (λ (i : Item). c.loop-item.text
    ++ text_of_numbers (table c.args.self.now) (shown_at c.args.self.now i)) read)
