use Rattle.treedoc_c.proofs.Holding.{loaded_by}
use Rattle.treedoc_c.proofs.saving.td_load.Goals as goal

pub returns-in-Ok-clause-closed : goal.returns-in-Ok-clause-closed
returns-in-Ok-clause-closed c = λ closed.
    loaded_by c.args.site c.args.sites c.args.journal.now c.in-Ok.loaded c.hold.new.session.handle.value c.hold.result
    c.alone-in-Ok.result c.in-Ok.ensures c.hold.ensures c.alone-in-Ok.ensures
