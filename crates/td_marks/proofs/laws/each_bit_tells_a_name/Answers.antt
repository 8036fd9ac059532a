use Rattle.td_marks.specs.Mark.{has_name}
use Rattle.td_marks.specs.declared.mark_op.TheConstants.{NAMES}
use Rattle.td_marks.proofs.Names.{bit_tells}
use Rattle.td_marks.proofs.laws.each_bit_tells_a_name.Goals as goal

pub returns : goal.returns
returns c = λ ops x m h. bit_tells NAMES (has_name ops x) m h
