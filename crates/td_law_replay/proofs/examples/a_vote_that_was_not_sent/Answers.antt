use Rattle.td_law_replay.proofs.Stops.{never_voted_missing}
use Rattle.td_law_replay.proofs.examples.a_vote_that_was_not_sent.Goals as goal

pub returns-clause-missing : goal.returns-clause-missing
returns-clause-missing c = never_voted_missing
