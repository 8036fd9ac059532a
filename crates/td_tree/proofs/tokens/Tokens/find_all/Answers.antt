use Rattle.std.proofs.Common.{◌∙◌, get_or, subst}
use Rattle.std.proofs.lemmas.List.{get_or_default}
use Rattle.td_list.specs.Items.{Item}
use Rattle.td_list.specs.Places.{nothing}
use Rattle.td_tree.specs.Parts.{token_of}
use Rattle.td_tree.specs.Stretches.{IsFoundAt}
use Rattle.td_tree.proofs.Gathered.{in_place}
use Rattle.td_tree.proofs.FoundRows.{found_next, dead_below}
use Rattle.td_tree.proofs.tokens.Tokens.find_all.Goals as goal

pub find_item-requires-clause-there : goal.find_item-requires-clause-there
find_item-requires-clause-there c =
    let read = c.index-items-k.is ∙ get_or_default c.args.items.now c.loop-k.k c.index-items-k.result nothing
    c.loop-k-test.true in
    rw read (c.requires.there (get_or c.args.items.now c.loop-k.k nothing)
    (in_place c.args.items.now nothing c.loop-k.k c.loop-k-test.true))

pub find_item-requires-clause-few : goal.find_item-requires-clause-few
find_item-requires-clause-few c =
    dead_below c.args.self.now c.args.items.now c.loop-k.k c.args.found.now.live.items c.args.found.now.nodes.items
    c.args.found.now.dead c.loop-k.found.live.items c.loop-k.found.nodes.items c.loop-k.found.dead c.requires.few
    c.loop-k.invariant

pub loop-k-preserved : goal.loop-k-preserved
loop-k-preserved c =
    let read = c.index-items-k.is ∙ get_or_default c.args.items.now c.loop-k.k c.index-items-k.result nothing
    c.loop-k-test.true in
    found_next c.args.self.now c.args.items.now c.loop-k.k c.loop-k-test.true c.args.found.now.live.items
    c.args.found.now.nodes.items c.args.found.now.dead c.loop-k.found.live.items c.loop-k.found.nodes.items
    c.loop-k.found.dead
    c.find_item.new.found.live.items c.find_item.new.found.nodes.items c.find_item.new.found.dead c.loop-k.invariant
    (subst (λ (i : Item). IsFoundAt c.args.self.now (token_of c.args.self.now i) c.loop-k.found.live.items
    c.loop-k.found.nodes.items c.loop-k.found.dead c.find_item.new.found.live.items
    c.find_item.new.found.nodes.items c.find_item.new.found.dead) read c.in_ok-find_item.ensures)
