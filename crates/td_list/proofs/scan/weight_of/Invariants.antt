use Rattle.std.proofs.Common.{◌≡◌, ◌+◌, drop}
use Rattle.td_list.specs.Items.{weight_of}
use Rattle.td_list.proofs.scan.weight_of.Given as goal

abbrev pub invariant-loop-item : goal.invariant-loop-item
invariant-loop-item l = weight_of l.items ≡ l.weight + weight_of (drop l.item-index l.items)
