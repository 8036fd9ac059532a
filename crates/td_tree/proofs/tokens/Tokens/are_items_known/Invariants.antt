use Rattle.std.proofs.Common.{◌≡◌, ℕ, true, take}
use Rattle.std.specs.List.{list_all}
use Rattle.td_brackets.specs.RowNumbers.{is_known_entry}
use Rattle.td_tree.specs.Parts.{table}
use Rattle.td_tree.specs.Reading.{shown}
use Rattle.td_tree.proofs.tokens.Tokens.are_items_known.Given as goal

abbrev pub invariant-loop-item : goal.invariant-loop-item
invariant-loop-item l = list_all (λ (r : ℕ). is_known_entry l.v (table l.self r))
    (shown l.self (take l.item-index l.items)) ≡ true
