use Rattle.td_law_convergence.proofs.EveryFamily.{rows, rows_agree, rows_whole}
use Rattle.td_law_convergence.proofs.laws.rows_are_part_of_the_order.Goals as goal

pub returns-clause-part : goal.returns-clause-part
returns-clause-part c = rows

pub returns-clause-agree : goal.returns-clause-agree
returns-clause-agree c = rows_agree

pub returns-clause-whole : goal.returns-clause-whole
returns-clause-whole c = rows_whole
