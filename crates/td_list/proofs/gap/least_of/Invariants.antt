use Rattle.std.proofs.Common.{◌≤◌, ℕ, take}
use Rattle.td_list.specs.Items.{IsItem}
use Rattle.td_list.proofs.gap.least_of.Given as goal

abbrev pub invariant-loop-item : goal.invariant-loop-item
invariant-loop-item l = record {
  number : l.least ≤ l.number;
  names : (x : ℕ) → IsItem x (take l.item-index l.items) → l.least ≤ x;
}
