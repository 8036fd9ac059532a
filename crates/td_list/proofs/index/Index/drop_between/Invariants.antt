use Rattle.std.proofs.Common.{length}
use Rattle.td_list.proofs.Dropping.{IsDropping}
use Rattle.td_list.proofs.index.Index.drop_between.Given as goal

abbrev pub invariant-loop-next : goal.invariant-loop-next
invariant-loop-next g l = IsDropping l.chunk l.end l.fn.self l.self

abbrev pub decreases-loop-next : goal.decreases-loop-next
decreases-loop-next g l = length l.self.order
