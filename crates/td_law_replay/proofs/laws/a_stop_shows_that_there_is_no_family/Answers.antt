use Rattle.td_law_replay.proofs.Stopped.{lost_untraced, wrong_untraced, stuck_untraced, unsent_untraced}
use Rattle.td_law_replay.proofs.laws.a_stop_shows_that_there_is_no_family.Goals as goal

pub returns-clause-lost : goal.returns-clause-lost
returns-clause-lost c = lost_untraced

pub returns-clause-wrong : goal.returns-clause-wrong
returns-clause-wrong c = wrong_untraced

pub returns-clause-stuck : goal.returns-clause-stuck
returns-clause-stuck c = stuck_untraced

pub returns-clause-unsent : goal.returns-clause-unsent
returns-clause-unsent c = unsent_untraced
