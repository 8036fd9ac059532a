use Rattle.std.proofs.Common.{length}
use Rattle.td_live.proofs.Drafts.{IsTaking}
use Rattle.td_live.proofs.ending.take_apart.Given as goal

abbrev pub invariant-loop-desks : goal.invariant-loop-desks
invariant-loop-desks l = IsTaking l.fn.desks.items l.desks.items l.editors.items l.books.items

abbrev pub decreases-loop-desks : goal.decreases-loop-desks
decreases-loop-desks l = length l.desks.items
