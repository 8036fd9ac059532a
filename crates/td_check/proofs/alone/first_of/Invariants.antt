use Rattle.td_check.proofs.AloneFirst.{NoneUpTo}
use Rattle.td_check.proofs.alone.first_of.Given as goal

abbrev pub invariant-loop-index : goal.invariant-loop-index
invariant-loop-index l = NoneUpTo l.trace l.site l.index
