use Rattle.std.proofs.Common.{◌≡◌, length, take}
use Rattle.td_tree.specs.Reading.{shown}
use Rattle.td_tree.proofs.tokens.Tokens.count_items.Given as goal

abbrev pub invariant-loop-item : goal.invariant-loop-item
invariant-loop-item l = l.count ≡ length (shown l.self (take l.item-index l.items))
