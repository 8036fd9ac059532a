use Rattle.td_law_commitment.proofs.Decided.{one_decision, decisions_agree}
use Rattle.td_law_commitment.proofs.laws.proposals_are_decided_once.Goals as goal

pub returns-clause-once : goal.returns-clause-once
returns-clause-once c = one_decision

pub returns-clause-followed : goal.returns-clause-followed
returns-clause-followed c = decisions_agree
