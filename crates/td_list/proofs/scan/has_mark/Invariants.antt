use Rattle.std.proofs.Common.{◌≡◌, drop}
use Rattle.td_list.specs.Items.{has_mark}
use Rattle.td_list.proofs.scan.has_mark.Given as goal

abbrev pub invariant-loop-item : goal.invariant-loop-item
invariant-loop-item l = has_mark (drop l.item-index l.items) ≡ has_mark l.items
