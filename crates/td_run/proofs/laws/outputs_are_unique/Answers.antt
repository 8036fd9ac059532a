use Rattle.td_run.proofs.Unique.{one_output, one_summary}
use Rattle.td_run.proofs.laws.outputs_are_unique.Goals as goal

pub returns-clause-script : goal.returns-clause-script
returns-clause-script c = one_output

pub returns-clause-summary : goal.returns-clause-summary
returns-clause-summary c = one_summary
