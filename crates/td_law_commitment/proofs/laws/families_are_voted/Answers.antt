use Rattle.td_law_commitment.proofs.Voted.{voted}
use Rattle.td_law_commitment.proofs.laws.families_are_voted.Goals as goal

pub returns : goal.returns
returns c = voted
