use Rattle.td_law_logs.proofs.AllOps.{all_of_family, all_part}
use Rattle.td_law_logs.proofs.laws.all_operations_of_a_family.Goals as goal

pub returns-clause-all : goal.returns-clause-all
returns-clause-all c = all_of_family

pub returns-clause-part : goal.returns-clause-part
returns-clause-part c = all_part
