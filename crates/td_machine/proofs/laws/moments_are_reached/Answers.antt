use Rattle.td_machine.proofs.Induction.{reached_at, log_grows}
use Rattle.td_machine.proofs.Family.{past_in_log}
use Rattle.td_machine.proofs.laws.moments_are_reached.Goals as goal

pub returns-clause-reached : goal.returns-clause-reached
returns-clause-reached c = reached_at

pub returns-clause-older : goal.returns-clause-older
returns-clause-older c = log_grows

pub returns-clause-past : goal.returns-clause-past
returns-clause-past c = past_in_log
