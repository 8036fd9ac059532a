use Rattle.std.proofs.Common.{◌≡◌, ◌+◌, drop}
use Rattle.td_list.specs.Items.{place_of}
use Rattle.td_list.proofs.scan.place_of.Given as goal

abbrev pub invariant-loop-item : goal.invariant-loop-item
invariant-loop-item l = record {
  counted : l.place ≡ l.item-index;
  left : place_of l.name l.items ≡ l.item-index + place_of l.name (drop l.item-index l.items);
}
