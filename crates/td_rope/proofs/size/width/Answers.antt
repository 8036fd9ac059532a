use Rattle.std.proofs.Common.{arith}
use Rattle.std.proofs.lemmas.List.Sums.{sum_by_more_le}
use Rattle.td_rope.specs.Units.{units}
use Rattle.td_rope.proofs.Sizes.{width_few}
use Rattle.td_rope.proofs.size.width.Goals as goal

pub overflow_add-width : goal.overflow_add-width
overflow_add-width c =
    let bytes = c.args.bytes.now in
    let more = sum_by_more_le (units c.args.unit) bytes c.loop-byte.byte-index 0 c.loop-byte-test.true in
    omega (
      arith,
      c.requires,
      c.loop-byte.invariant,
      c.units-width.ensures,
      more,
      width_few c.args.unit bytes,
    )
