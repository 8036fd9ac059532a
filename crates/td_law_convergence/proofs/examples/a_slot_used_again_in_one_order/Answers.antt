use Rattle.td_law_convergence.proofs.UsedAgain.{commit, consistent}
use Rattle.td_law_convergence.proofs.examples.a_slot_used_again_in_one_order.Goals as goal

pub returns-clause-consistent : goal.returns-clause-consistent
returns-clause-consistent c = consistent

pub returns-clause-commit : goal.returns-clause-commit
returns-clause-commit c = commit
