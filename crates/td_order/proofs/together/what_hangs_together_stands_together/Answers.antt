use Rattle.td_order.proofs.StandTogether.{under_together, at_together, under_knew, no_stranger}
use Rattle.td_order.proofs.together.what_hangs_together_stands_together.Goals as goal

pub returns-clause-on : goal.returns-clause-on
returns-clause-on c = under_together

pub returns-clause-at : goal.returns-clause-at
returns-clause-at c = at_together

pub returns-clause-known : goal.returns-clause-known
returns-clause-known c = under_knew

pub returns-clause-no_stranger : goal.returns-clause-no_stranger
returns-clause-no_stranger c = no_stranger
