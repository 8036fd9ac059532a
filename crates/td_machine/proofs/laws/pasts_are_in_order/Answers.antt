use Rattle.td_machine.proofs.Family.{past_covered, past_is_smaller, not_own_past, past_of_past}
use Rattle.td_machine.proofs.laws.pasts_are_in_order.Goals as goal

-- src/laws.rt:1:1
pub returns-clause-covers : goal.returns-clause-covers
returns-clause-covers c = past_covered

-- src/laws.rt:1:1
pub returns-clause-sums : goal.returns-clause-sums
returns-clause-sums c = past_is_smaller

-- src/laws.rt:1:1
pub returns-clause-irreflexive : goal.returns-clause-irreflexive
returns-clause-irreflexive c = not_own_past

-- src/laws.rt:1:1
pub returns-clause-transitive : goal.returns-clause-transitive
returns-clause-transitive c = past_of_past
