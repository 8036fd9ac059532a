use Rattle.td_brackets.proofs.Leaves.{over_leaf}
use Rattle.td_brackets.proofs.laws.a_walk_passes_leaves_by_their_top.Goals as goal

pub returns-clause-over : goal.returns-clause-over
returns-clause-over c = over_leaf
