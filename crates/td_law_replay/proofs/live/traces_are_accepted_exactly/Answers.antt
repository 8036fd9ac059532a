use Rattle.td_law_replay.proofs.Accepting.{accepted_exactly}
use Rattle.td_law_replay.proofs.live.traces_are_accepted_exactly.Goals as goal

pub returns : goal.returns
returns c = accepted_exactly
