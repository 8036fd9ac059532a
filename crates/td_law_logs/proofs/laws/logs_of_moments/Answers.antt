use Rattle.td_law_logs.proofs.Moments.{moment_log}
use Rattle.td_law_logs.proofs.laws.logs_of_moments.Goals as goal

pub returns : goal.returns
returns c = moment_log
