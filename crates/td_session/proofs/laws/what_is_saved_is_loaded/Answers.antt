use Rattle.td_journal.proofs.Wholes.{one_replica}
use Rattle.td_session.proofs.laws.what_is_saved_is_loaded.Goals as goal

pub returns : goal.returns
returns c = λ old new journal saved loaded.
    one_replica old.machine.site old.machine.size journal new old loaded.ok.1 saved.ok.2
