use Rattle.td_room.proofs.Working.{worker_self, worker_then}
use Rattle.td_room.proofs.laws.later_workers_compose.Goals as goal

pub returns-clause-begins : goal.returns-clause-begins
returns-clause-begins c = worker_self

pub returns-clause-goes_on : goal.returns-clause-goes_on
returns-clause-goes_on c = worker_then
