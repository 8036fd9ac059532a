use Rattle.td_law_replay.proofs.Shown.{text_at}
use Rattle.td_law_replay.proofs.laws.texts_on_the_way.Goals as goal

pub returns : goal.returns
returns c = text_at
