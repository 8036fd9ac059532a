use Rattle.td_law_convergence.proofs.EveryFamily.{promises}
use Rattle.td_law_convergence.proofs.laws.consistent_families_keep_the_promises.Goals as goal

pub returns : goal.returns
returns c = promises
