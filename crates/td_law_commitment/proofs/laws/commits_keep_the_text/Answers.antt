use Rattle.td_law_commitment.proofs.KeptText.{commits_keep_text}
use Rattle.td_law_commitment.proofs.laws.commits_keep_the_text.Goals as goal

pub returns : goal.returns
returns c = commits_keep_text
