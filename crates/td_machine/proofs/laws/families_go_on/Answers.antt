use Rattle.td_machine.proofs.Growing.{consistent_start, consistent_more}
use Rattle.td_machine.proofs.laws.families_go_on.Goals as goal

pub returns-clause-begins : goal.returns-clause-begins
returns-clause-begins c = consistent_start

pub returns-clause-steps : goal.returns-clause-steps
returns-clause-steps c = consistent_more
