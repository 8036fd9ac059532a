use Rattle.td_law_agreement.proofs.Meeting.{made_empty}
use Rattle.td_law_agreement.proofs.EveryFamily.{all_siblings_meet}
use Rattle.td_law_agreement.proofs.laws.siblings_at_arrival.Goals as goal

pub returns-clause-made : goal.returns-clause-made
returns-clause-made c = made_empty

pub returns-clause-taken : goal.returns-clause-taken
returns-clause-taken c = all_siblings_meet
