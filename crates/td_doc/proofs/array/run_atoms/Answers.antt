use Rattle.std.proofs.Common.{◌<◌, length, ap, arith}
use Rattle.td_base.proofs.RunIds.{offset_fits}
use Rattle.td_doc.proofs.array.run_atoms.Goals as goal

pub invariant_of-id : goal.invariant_of-id
invariant_of-id c =
    let some = ap length c.in-Some.ensures.steps in
    let within : c.loop-offset.offset < length c.args.run.now = omega (arith, c.loop-offset.invariant.place, some) in
    offset_fits c.args.run.now c.loop-offset.offset c.len.ensures.run within
