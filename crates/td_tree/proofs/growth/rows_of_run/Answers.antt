use Rattle.std.proofs.Common.{◌<◌, ◌≤◌, length, ap, arith}
use Rattle.td_base.specs.declared.atom_id.TheConstants.{MAX_OFFSET}
use Rattle.td_base.proofs.RunIds.{offset_fits}
use Rattle.td_tree.proofs.growth.rows_of_run.Goals as goal

pub overflow_cast-id : goal.overflow_cast-id
overflow_cast-id c =
    let some = ap length c.in-Some.ensures.steps in
    let within : c.loop-offset.offset < length c.args.run.now = omega (arith, c.loop-offset.invariant.place, some) in
    let fits : c.loop-offset.offset ≤ MAX_OFFSET =
    offset_fits c.args.run.now c.loop-offset.offset c.requires.run within in
    omega arith

pub invariant_of-id : goal.invariant_of-id
invariant_of-id c =
    let some = ap length c.in-Some.ensures.steps in
    let within : c.loop-offset.offset < length c.args.run.now = omega (arith, c.loop-offset.invariant.place, some) in
    offset_fits c.args.run.now c.loop-offset.offset c.requires.run within
