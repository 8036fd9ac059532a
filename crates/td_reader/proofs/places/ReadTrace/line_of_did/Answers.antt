use Rattle.std.proofs.Common.{◌-◌, arith}
use Rattle.td_reader.proofs.PartLines.{has_did}
use Rattle.td_reader.proofs.places.ReadTrace.line_of_did.Goals as goal

pub overflow_add-result : goal.overflow_add-result
overflow_add-result c =
    let h = has_did c.args.self.now (c.args.editor - 1) (c.args.j - 1) c.log_begin.result
    (omega (arith, c.requires.some, c.requires.within)) c.log_begin.ensures.begin in
    omega (arith, h.within, c.log_begin.ensures.few)

pub overflow_add-result-2 : goal.overflow_add-result-2
overflow_add-result-2 c =
    let h = has_did c.args.self.now (c.args.editor - 1) (c.args.j - 1) c.log_begin.result
    (omega (arith, c.requires.some, c.requires.within)) c.log_begin.ensures.begin in
    omega (arith, h.within, c.log_begin.ensures.few, c.requires.some.0, c.requires.some.1)
