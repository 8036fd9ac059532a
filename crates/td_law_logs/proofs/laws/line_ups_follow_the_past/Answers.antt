use Rattle.td_law_logs.proofs.WellRooted.{part_past}
use Rattle.td_law_logs.proofs.laws.line_ups_follow_the_past.Goals as goal

pub returns : goal.returns
returns c = part_past
