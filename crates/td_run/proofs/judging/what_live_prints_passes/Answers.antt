use Rattle.td_run.proofs.LivePasses.{passes, has_yes, says_yes}
use Rattle.td_run.proofs.judging.what_live_prints_passes.Goals as goal

pub returns-clause-possible : goal.returns-clause-possible
returns-clause-possible c = passes

pub returns-clause-yes : goal.returns-clause-yes
returns-clause-yes c = has_yes

pub returns-clause-printed : goal.returns-clause-printed
returns-clause-printed c = says_yes
