use Rattle.std.proofs.Common.{◌+◌, arith, sym}
use Rattle.td_reader.specs.Parts.{part_sizes}
use Rattle.td_reader.proofs.PartLines.{begin_is, sized}
use Rattle.td_reader.proofs.places.ReadTrace.size.Goals as goal

pub returns-in_err-begin : goal.returns-in_err-begin
returns-in_err-begin c =
    absurd (begin_is 1 (part_sizes c.args.self.now) c.args.part (omega (arith, c.parts.ensures, c.if-part-parts.false))
    (sym c.in_err-begin.ensures.begin))

pub returns-in_err-end : goal.returns-in_err-end
returns-in_err-end c =
    absurd (begin_is 1 (part_sizes c.args.self.now) (c.args.part + 1)
    (omega (arith, c.parts.ensures, c.if-part-parts.false)) (sym c.in_err-end.ensures.begin))

pub overflow_sub-result : goal.overflow_sub-result
overflow_sub-result c =
    let s = sized 1 (part_sizes c.args.self.now) c.args.part c.in_ok-begin.begin c.in_ok-end.end
    (sym c.in_ok-begin.ensures.begin) (sym c.in_ok-end.ensures.begin) in
    omega (arith, s.further)

pub overflow_sub-result-2 : goal.overflow_sub-result-2
overflow_sub-result-2 c =
    let s = sized 1 (part_sizes c.args.self.now) c.args.part c.in_ok-begin.begin c.in_ok-end.end
    (sym c.in_ok-begin.ensures.begin) (sym c.in_ok-end.ensures.begin) in
    omega (arith, s.further)

pub returns : goal.returns
returns c =
    let s = sized 1 (part_sizes c.args.self.now) c.args.part c.in_ok-begin.begin c.in_ok-end.end
    (sym c.in_ok-begin.ensures.begin) (sym c.in_ok-end.ensures.begin) in
    sym s.size
