use Rattle.td_machine.proofs.Induction.{reached_start, reached_step}
use Rattle.td_machine.proofs.laws.histories_go_on.Goals as goal

pub returns-clause-begins : goal.returns-clause-begins
returns-clause-begins c = reached_start

pub returns-clause-steps : goal.returns-clause-steps
returns-clause-steps c = reached_step
