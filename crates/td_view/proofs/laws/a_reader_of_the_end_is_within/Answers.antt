use Rattle.td_view.proofs.Endings.{told_within}
use Rattle.td_view.proofs.laws.a_reader_of_the_end_is_within.Goals as goal

pub returns : goal.returns
returns c = told_within
