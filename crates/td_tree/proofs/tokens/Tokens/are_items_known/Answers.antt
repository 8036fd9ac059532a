use Rattle.std.proofs.Common.{◌∙◌, ℕ, get_or, ap, sym}
use Rattle.std.specs.List.{list_all}
use Rattle.std.proofs.lemmas.List.{get_or_default}
use Rattle.td_list.specs.Items.{Item}
use Rattle.td_list.specs.Places.{nothing}
use Rattle.td_brackets.specs.RowNumbers.{is_known_entry}
use Rattle.td_tree.specs.Parts.{table}
use Rattle.td_tree.specs.Reading.{shown_at}
use Rattle.td_tree.proofs.Gathered.{in_place}
use Rattle.td_tree.proofs.KnownWalks.{known_next, unknown_at}
use Rattle.td_tree.proofs.tokens.Tokens.are_items_known.Goals as goal

pub is_item_known-requires-clause-there : goal.is_item_known-requires-clause-there
is_item_known-requires-clause-there c =
    let read = c.item-item.is ∙ get_or_default c.args.items.now c.loop-item.item-index c.item-item.result nothing
    c.loop-item-test.true in
    rw read (c.requires.there (get_or c.args.items.now c.loop-item.item-index nothing)
    (in_place c.args.items.now nothing c.loop-item.item-index c.loop-item-test.true))

pub returns-then-not-is_item_known : goal.returns-then-not-is_item_known
returns-then-not-is_item_known c =
    let read = c.item-item.is ∙ get_or_default c.args.items.now c.loop-item.item-index c.item-item.result nothing
    c.loop-item-test.true in
    let known = c.is_item_known.ensures ∙ ap (λ (i : Item). list_all
    (λ (r : ℕ). is_known_entry c.args.v.now (table c.args.self.now r)) (shown_at c.args.self.now i)) read in
    sym (unknown_at (λ (r : ℕ). is_known_entry c.args.v.now (table c.args.self.now r)) c.args.self.now
    c.args.items.now c.loop-item.item-index c.loop-item-test.true
    (sym known ∙ c.if-not-is_item_known.true))

pub loop-item-preserved : goal.loop-item-preserved
loop-item-preserved c =
    let read = c.item-item.is ∙ get_or_default c.args.items.now c.loop-item.item-index c.item-item.result nothing
    c.loop-item-test.true in
    let known = c.is_item_known.ensures ∙ ap (λ (i : Item). list_all
    (λ (r : ℕ). is_known_entry c.args.v.now (table c.args.self.now r)) (shown_at c.args.self.now i)) read in
    known_next (λ (r : ℕ). is_known_entry c.args.v.now (table c.args.self.now r)) c.args.self.now c.args.items.now
    c.loop-item.item-index c.loop-item-test.true c.loop-item.invariant
    (sym known ∙ c.if-not-is_item_known.false)
