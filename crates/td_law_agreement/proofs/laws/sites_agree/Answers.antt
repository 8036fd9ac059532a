use Rattle.td_law_agreement.proofs.EveryFamily.{all_edits_meet, all_commits_meet}
use Rattle.td_law_agreement.proofs.laws.sites_agree.Goals as goal

pub returns-clause-edits : goal.returns-clause-edits
returns-clause-edits c = all_edits_meet

pub returns-clause-commits : goal.returns-clause-commits
returns-clause-commits c = all_commits_meet
