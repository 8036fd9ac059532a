use Rattle.td_journal.proofs.Unique.{one_journal}
use Rattle.td_journal.proofs.laws.a_file_is_one_journal.Goals as goal

pub returns : goal.returns
returns c = one_journal
