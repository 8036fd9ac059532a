use Rattle.std.proofs.Common.{◌≡◌, ◌++◌, take}
use Rattle.td_brackets.specs.RowNumbers.{text_of_numbers}
use Rattle.td_tree.specs.Parts.{table}
use Rattle.td_tree.specs.Reading.{shown}
use Rattle.td_tree.proofs.tokens.Tokens.push_items.Given as goal

abbrev pub invariant-loop-item : goal.invariant-loop-item
invariant-loop-item l = l.text ≡ l.fn.text ++ text_of_numbers (table l.self) (shown l.self (take l.item-index l.items))
