use Rattle.td_text.proofs.RunLemmas.{runs_are_runs}
use Rattle.td_text.proofs.runs.a_text_is_cut_into_runs.Goals as goal

pub returns-clause-runs : goal.returns-clause-runs
returns-clause-runs c = runs_are_runs
