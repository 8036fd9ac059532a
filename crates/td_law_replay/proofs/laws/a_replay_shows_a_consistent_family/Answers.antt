use Rattle.td_law_replay.proofs.Shown.{shows_all}
use Rattle.td_law_replay.proofs.laws.a_replay_shows_a_consistent_family.Goals as goal

pub returns : goal.returns
returns c = shows_all
