use Rattle.td_rope.proofs.Sizes.{measured}
use Rattle.td_rope.proofs.size.Size.of.Goals as goal

pub returns : goal.returns
returns c = λ atoms each count bytes.
    measured atoms c.args.bytes.now c.args.count c.width.result c.width-2.result each count bytes c.width.ensures
    c.width-2.ensures
