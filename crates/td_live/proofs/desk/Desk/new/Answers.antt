use Rattle.td_live.proofs.Turns.{parts_new}
use Rattle.td_live.proofs.desk.Desk.new.Goals as goal

pub invariant_of-result : goal.invariant_of-result
invariant_of-result c =
    rw (c.new.ensures, c.new-2.ensures.items)
    (parts_new c.args.editor c.args.lines c.requires.unused c.requires.calls)
