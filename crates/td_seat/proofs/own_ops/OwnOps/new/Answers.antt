use Rattle.td_seat.proofs.OwnParts.{start_parts}
use Rattle.td_seat.proofs.own_ops.OwnOps.new.Goals as goal

pub returns : goal.returns
returns c =
    rw (c.new.ensures, c.new-2.ensures)
    (start_parts c.args.site c.args.n c.number.ensures.least c.requires.within)
