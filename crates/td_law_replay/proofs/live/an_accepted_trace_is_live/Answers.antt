use Rattle.td_law_replay.proofs.Accepting.{accepted_is_live}
use Rattle.td_law_replay.proofs.live.an_accepted_trace_is_live.Goals as goal

pub returns : goal.returns
returns c = accepted_is_live
