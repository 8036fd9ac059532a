use Rattle.std.proofs.Common.{length}
use Rattle.td_path.specs.declared.slot.Slot.{Slot}
use Rattle.td_list.specs.Items.{items_from_end}
use Rattle.td_tree.specs.Places.{IsPlace}
use Rattle.td_tree.proofs.tokens.Tokens.over_smaller.Given as goal

abbrev pub invariant-loop-at : goal.invariant-loop-at
invariant-loop-at l = record {
  some : (slot : Slot) × IsPlace l.self slot l.id l.at;
  place : (slot : Slot) → IsPlace l.self slot l.id l.fn.first → IsPlace l.self slot l.id l.at;
}

abbrev pub decreases-loop-at : goal.decreases-loop-at
decreases-loop-at l = length (items_from_end l.at l.self.items)
