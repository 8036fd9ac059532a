use Rattle.td_reader.proofs.PartLines.{numbered_lines}
use Rattle.td_reader.proofs.laws.lines_are_where_their_numbers_say.Goals as goal

pub returns : goal.returns
returns c = λ t. numbered_lines t
