use Rattle.td_journal.proofs.Surviving.{reopened, restored}
use Rattle.td_journal.proofs.laws.reopening_restores_the_history.Goals as goal

pub returns-clause-reopened : goal.returns-clause-reopened
returns-clause-reopened c = reopened

pub returns-clause-restored : goal.returns-clause-restored
returns-clause-restored c = restored
