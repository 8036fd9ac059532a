use Rattle.td_check.proofs.AloneFirst.{NoneOfSites}
use Rattle.td_check.proofs.alone.first_in.Given as goal

abbrev pub invariant-loop-n : goal.invariant-loop-n
invariant-loop-n l = NoneOfSites l.trace l.n
