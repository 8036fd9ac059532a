use Rattle.std.proofs.Common.{◌-◌, arith}
use Rattle.td_reader.proofs.PartLines.{has_entry}
use Rattle.td_reader.proofs.places.ReadTrace.line_of_entry.Goals as goal

pub overflow_add-result : goal.overflow_add-result
overflow_add-result c =
    let h = has_entry c.args.self.now c.args.site (c.args.k - 1) c.history_begin.result
    (omega (arith, c.requires.some, c.requires.within))
    c.history_begin.ensures.begin in
    omega (arith, h.within, c.history_begin.ensures.few)

pub overflow_add-result-2 : goal.overflow_add-result-2
overflow_add-result-2 c =
    let h = has_entry c.args.self.now c.args.site (c.args.k - 1) c.history_begin.result
    (omega (arith, c.requires.some, c.requires.within))
    c.history_begin.ensures.begin in
    omega (arith, h.within, c.history_begin.ensures.few, c.requires.some)
