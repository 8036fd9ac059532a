use Rattle.td_law_convergence.proofs.EveryFamily.{subtrees}
use Rattle.td_law_convergence.proofs.laws.subtrees_stay_whole.Goals as goal

pub returns : goal.returns
returns c = subtrees
