use Rattle.std.proofs.Common.{◌≡◌, ◌++◌, take, drop}
use Rattle.td_list.specs.Items.{items_before}
use Rattle.td_tree.proofs.found.items_up_to.Given as goal

abbrev pub invariant-loop-place : goal.invariant-loop-place
invariant-loop-place l = items_before l.name l.items ≡ take l.place l.items
    ++ items_before l.name (drop l.place l.items)
