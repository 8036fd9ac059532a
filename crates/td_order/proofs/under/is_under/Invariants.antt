use Rattle.std.proofs.Common.{◌≡◌, drop}
use Rattle.td_order.specs.Under.{under}
use Rattle.td_order.proofs.under.is_under.Given as goal

-- the insertion that the walk is at is under the top among those left where the first was among all
abbrev pub invariant-loop-insertion : goal.invariant-loop-insertion
invariant-loop-insertion l = under (drop l.insertion-index l.placed) l.top l.at ≡ under l.placed l.top l.fn.dot
