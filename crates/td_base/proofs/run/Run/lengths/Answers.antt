use Rattle.std.proofs.Common.{refl, arith}
use Rattle.td_base.proofs.RunPieces.{next_length, all_lengths}
use Rattle.td_base.proofs.run.Run.lengths.Goals as goal

pub loop-i-init : goal.loop-i-init
loop-i-init c = record { lengths = refl; ends = rw (← c.self.view_is) c.self.invariant.ends_again }

pub bounds-lengths-i : goal.bounds-lengths-i
bounds-lengths-i c =
    (next_length 64 c.args.self.now c.loop-i.i c.loop-i.lengths c.loop-i.ends (omega arith) c.len-i-end.ensures.run
    (omega arith) c.loop-i.invariant.lengths c.loop-i.invariant.ends).within

pub overflow_shr-ends : goal.overflow_shr-ends
overflow_shr-ends c =
    (next_length 64 c.args.self.now c.loop-i.i c.loop-i.lengths c.loop-i.ends (omega arith) c.len-i-end.ensures.run
    (omega arith) c.loop-i.invariant.lengths c.loop-i.invariant.ends).shift

pub loop-i-preserved : goal.loop-i-preserved
loop-i-preserved c =
    let next = next_length 64 c.args.self.now c.loop-i.i c.loop-i.lengths c.loop-i.ends (omega arith)
    c.len-i-end.ensures.run (omega arith) c.loop-i.invariant.lengths c.loop-i.invariant.ends in
    record { lengths = next.lengths_next; ends = next.ends_next }

pub returns : goal.returns
returns c = all_lengths c.args.self.now c.loop-i.i c.loop-i.lengths (omega arith) c.loop-i.invariant.lengths
