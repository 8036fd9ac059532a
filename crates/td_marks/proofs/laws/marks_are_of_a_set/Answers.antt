use Rattle.td_marks.proofs.Sets.{names_of_set, text_of_set}
use Rattle.td_marks.proofs.laws.marks_are_of_a_set.Goals as goal

pub returns-clause-names : goal.returns-clause-names
returns-clause-names c = names_of_set

pub returns-clause-text : goal.returns-clause-text
returns-clause-text c = text_of_set
