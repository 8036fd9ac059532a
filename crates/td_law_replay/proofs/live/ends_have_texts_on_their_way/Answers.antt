use Rattle.td_law_replay.proofs.Accepting.{texts_there}
use Rattle.td_law_replay.proofs.live.ends_have_texts_on_their_way.Goals as goal

pub returns : goal.returns
returns c = texts_there
