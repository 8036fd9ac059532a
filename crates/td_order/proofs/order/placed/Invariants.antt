use Rattle.std.proofs.Common.{◌≡◌, drop}
use Rattle.td_order.specs.Order.{placed}
use Rattle.td_order.proofs.order.placed.Given as goal

-- those from the index on are placed
abbrev pub invariant-loop-i : goal.invariant-loop-i
invariant-loop-i l = l.list.items ≡ placed (drop l.i l.insertions)
