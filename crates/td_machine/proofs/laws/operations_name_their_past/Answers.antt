use Rattle.td_machine.proofs.Family.{valid_of, full_of, inserted_in_past}
use Rattle.td_machine.proofs.laws.operations_name_their_past.Goals as goal

pub returns-clause-valid : goal.returns-clause-valid
returns-clause-valid c = valid_of

pub returns-clause-full : goal.returns-clause-full
returns-clause-full c = full_of

pub returns-clause-names : goal.returns-clause-names
returns-clause-names c = inserted_in_past
