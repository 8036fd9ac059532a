use Rattle.td_law_logs.proofs.WellRooted.{moment_part}
use Rattle.td_law_logs.proofs.laws.logs_are_parts.Goals as goal

pub returns : goal.returns
returns c = moment_part
