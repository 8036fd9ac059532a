use Rattle.td_law_agreement.proofs.EveryFamily.{parts, stable}
use Rattle.td_law_agreement.proofs.laws.a_part_keeps_the_order_of_its_family.Goals as goal

pub returns-clause-parts : goal.returns-clause-parts
returns-clause-parts c = parts

pub returns-clause-stable : goal.returns-clause-stable
returns-clause-stable c = stable
