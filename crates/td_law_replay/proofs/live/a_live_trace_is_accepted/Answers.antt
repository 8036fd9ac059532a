use Rattle.td_law_replay.proofs.Accepting.{live_is_accepted}
use Rattle.td_law_replay.proofs.live.a_live_trace_is_accepted.Goals as goal

pub returns : goal.returns
returns c = live_is_accepted
