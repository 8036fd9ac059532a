use Rattle.std.proofs.Common.{◌≡◌, ℕ, true, length}
use Rattle.std.specs.List.{list_all}
use Rattle.td_list.specs.Items.{items_from_end}
use Rattle.td_brackets.specs.RowNumbers.{is_known_entry}
use Rattle.td_tree.specs.Parts.{table}
use Rattle.td_tree.specs.Reading.{shown}
use Rattle.td_tree.specs.Walks.{IsStretch}
use Rattle.td_tree.proofs.Walked.{Walked}
use Rattle.td_tree.proofs.tokens.Tokens.are_known.Given as goal

abbrev pub invariant-loop-self : goal.invariant-loop-self
invariant-loop-self l = (s : IsStretch l.self l.fn.first l.end)
    → (w : Walked l.self s.inner s.back l.at) × (list_all (λ (r : ℕ). is_known_entry l.v (table l.self r))
    (shown l.self w.done) ≡ true)

abbrev pub decreases-loop-self : goal.decreases-loop-self
decreases-loop-self l = length (items_from_end l.at l.self.items)
