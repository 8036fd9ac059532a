use Rattle.std.proofs.Common.{◌≡◌, length}
use Rattle.td_list.specs.Items.{items_from_end}
use Rattle.td_tree.specs.Reading.{shown}
use Rattle.td_tree.specs.Walks.{IsStretch}
use Rattle.td_tree.proofs.Walked.{Walked}
use Rattle.td_tree.proofs.tokens.Tokens.count_between.Given as goal

abbrev pub invariant-loop-self : goal.invariant-loop-self
invariant-loop-self l = (s : IsStretch l.self l.fn.first l.end)
    → (w : Walked l.self s.inner s.back l.at) × (l.count ≡ length (shown l.self w.done))

abbrev pub decreases-loop-self : goal.decreases-loop-self
decreases-loop-self l = length (items_from_end l.at l.self.items)
