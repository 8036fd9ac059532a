use Rattle.td_law_replay.proofs.Shown.{votes_sent}
use Rattle.td_law_replay.proofs.laws.its_replay_ends_with_its_machines.Goals as goal

pub returns-clause-votes : goal.returns-clause-votes
returns-clause-votes c = votes_sent
