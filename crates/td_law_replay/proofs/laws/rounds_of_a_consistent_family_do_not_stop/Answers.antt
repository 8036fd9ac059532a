use Rattle.td_law_replay.proofs.Rounding.{not_lost, not_wrong, not_stuck}
use Rattle.td_law_replay.proofs.laws.rounds_of_a_consistent_family_do_not_stop.Goals as goal

pub returns-clause-lost : goal.returns-clause-lost
returns-clause-lost c = not_lost

pub returns-clause-wrong : goal.returns-clause-wrong
returns-clause-wrong c = not_wrong

pub returns-clause-stuck : goal.returns-clause-stuck
returns-clause-stuck c = not_stuck
