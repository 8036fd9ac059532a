use Rattle.td_law_marks.proofs.KeptMarks.{commits_keep_marks}
use Rattle.td_law_marks.proofs.laws.commits_keep_the_marks.Goals as goal

pub returns : goal.returns
returns c = commits_keep_marks
