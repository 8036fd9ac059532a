use Rattle.std.proofs.Common.{List, length}
use Rattle.std.specs.Option.{ForSome}
use Rattle.td_brackets.specs.Brackets.{Level}
use Rattle.td_list.specs.Items.{IsItem, first_name, items_after, items_from_end}
use Rattle.td_tree.proofs.SlotsAfter.{Over}
use Rattle.td_tree.proofs.tokens.Tokens.slot_after.Given as goal

abbrev pub invariant-loop-at : goal.invariant-loop-at
invariant-loop-at l = record {
  there : ForSome l.at (λ x. IsItem x l.self.items);
  goes : (stack : List Level) → Over l.self stack (first_name (items_after l.fn.name l.self.items))
      → Over l.self stack l.at;
}

abbrev pub decreases-loop-at : goal.decreases-loop-at
decreases-loop-at l = length (items_from_end l.at l.self.items)
