use Rattle.std.proofs.Common.{◌≡◌, ◌++◌, drop}
use Rattle.td_op.specs.Insertion.{insertions}
use Rattle.td_order.proofs.insertions.insertions_of.Given as goal

-- what is found and what is to be found
abbrev pub invariant-loop-op : goal.invariant-loop-op
invariant-loop-op l = l.found.items ++ insertions (drop l.op-index l.ops) ≡ insertions l.ops
