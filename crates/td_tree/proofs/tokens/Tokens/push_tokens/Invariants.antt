use Rattle.std.proofs.Common.{◌≡◌, ◌++◌, [], length}
use Rattle.td_list.specs.Items.{items_from_end}
use Rattle.td_brackets.specs.RowNumbers.{text_of_numbers}
use Rattle.td_tree.specs.Parts.{table}
use Rattle.td_tree.specs.Reading.{shown}
use Rattle.td_tree.proofs.Walked.{Walked}
use Rattle.td_tree.proofs.tokens.Tokens.push_tokens.Given as goal

abbrev pub invariant-loop-at : goal.invariant-loop-at
invariant-loop-at l = (w : Walked l.self l.self.items [] l.at)
    × (l.text ≡ l.fn.text ++ text_of_numbers (table l.self) (shown l.self w.done))

abbrev pub decreases-loop-at : goal.decreases-loop-at
decreases-loop-at l = length (items_from_end l.at l.self.items)
