use Rattle.td_journal.proofs.Surviving.{families_survive}
use Rattle.td_journal.proofs.laws.families_survive_crashes.Goals as goal

pub returns : goal.returns
returns c = families_survive
