use Rattle.td_law_marks.proofs.Shown.{marks_converge}
use Rattle.td_law_marks.proofs.laws.marked_texts_converge.Goals as goal

pub returns : goal.returns
returns c = marks_converge
