use Rattle.td_journal.proofs.Wholes.{found_is_journal, of_is_not_bad, one_replica}
use Rattle.td_journal.proofs.whole.load.Goals as goal

pub returns-in-Ok-clause-restores : goal.returns-in-Ok-clause-restores
returns-in-Ok-clause-restores g c = λ r h.
    one_replica c.args.site c.args.n c.args.bytes.now c.in-Ok.found.replica r
    (found_is_journal c.args.site c.args.n c.args.bytes.now c.in-Ok.found.replica c.in-Ok.found.check c.in-Ok.found.end
    c.in-Ok.ensures.found c.entries.ensures.replica) h

pub returns-in-Err-Bad-clause-not_bad : goal.returns-in-Err-Bad-clause-not_bad
returns-in-Err-Bad-clause-not_bad g c = λ r h at e.
    of_is_not_bad c.args.site c.args.n c.args.bytes.now r h c.in-Err-Bad.at
    (c.in-Err-Bad.ensures.bad c.in-Err-Bad.at c.in-Err-Bad.field-0-is)
