use Rattle.td_law_agreement.proofs.EveryFamily.{none_unfit}
use Rattle.td_law_agreement.proofs.laws.nothing_is_unfit.Goals as goal

pub returns : goal.returns
returns c = none_unfit
