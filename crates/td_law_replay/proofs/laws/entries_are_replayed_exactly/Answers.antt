use Rattle.td_law_replay.proofs.Exactly.{exactly}
use Rattle.td_law_replay.proofs.laws.entries_are_replayed_exactly.Goals as goal

pub returns : goal.returns
returns c = exactly
