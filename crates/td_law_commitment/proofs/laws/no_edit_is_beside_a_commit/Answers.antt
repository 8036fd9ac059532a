use Rattle.td_law_commitment.proofs.Beside.{no_concurrent_edit}
use Rattle.td_law_commitment.proofs.laws.no_edit_is_beside_a_commit.Goals as goal

pub returns : goal.returns
returns c = no_concurrent_edit
