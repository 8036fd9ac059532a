use Rattle.td_law_logs.proofs.Bases.{base_is_past}
use Rattle.td_law_logs.proofs.laws.what_was_there_is_the_past.Goals as goal

pub returns : goal.returns
returns c = base_is_past
