use Rattle.td_marks.proofs.Sets.{flatten_keeps_marks}
use Rattle.td_marks.proofs.laws.a_flatten_keeps_the_marks.Goals as goal

pub returns : goal.returns
returns c = flatten_keeps_marks
