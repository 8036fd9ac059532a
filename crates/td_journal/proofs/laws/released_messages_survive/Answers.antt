use Rattle.td_journal.proofs.Surviving.{survive}
use Rattle.td_journal.proofs.laws.released_messages_survive.Goals as goal

pub returns : goal.returns
returns c = λ count released old new h k o counted. survive count old new h k o released counted
