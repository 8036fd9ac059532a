use Rattle.td_journal.proofs.Wholes.{one_replica}
use Rattle.td_journal.proofs.laws.what_is_saved_is_loaded.Goals as goal

pub returns : goal.returns
returns c = one_replica
