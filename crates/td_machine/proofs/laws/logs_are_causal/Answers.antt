use Rattle.td_machine.proofs.Reached.{counted_of, numbered_of, past_of}
use Rattle.td_machine.proofs.laws.logs_are_causal.Goals as goal

pub returns-clause-counted : goal.returns-clause-counted
returns-clause-counted c = counted_of

pub returns-clause-numbered : goal.returns-clause-numbered
returns-clause-numbered c = numbered_of

pub returns-clause-past : goal.returns-clause-past
returns-clause-past c = past_of
