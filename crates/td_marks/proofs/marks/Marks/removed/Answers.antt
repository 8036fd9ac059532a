use Rattle.std.proofs.Common.{◌∙◌, ◌||◌, sym, ap, Bool}
use Rattle.std.specs.Prelude.{slice_get, slice_index}
use Rattle.td_base.specs.Value.{DotValue}
use Rattle.td_marks.specs.Index.{passes}
use Rattle.td_marks.specs.Mark.{removes}
use Rattle.td_marks.proofs.Names.{any_more}
use Rattle.td_marks.proofs.marks.Marks.removed.Goals as goal

pub loop-number-preserved : goal.loop-number-preserved
loop-number-preserved c = record {
  size = c.join_removal.ensures.size;
  seen = λ (d : DotValue) some.
      c.join_removal.ensures.dots d
      ∙ ap (λ (b : Bool). b || passes (removes c.args.id c.args.name d) (slice_get c.args.self.now.ops
      (slice_index c.args.numbers.now c.loop-number.number-index))) (c.loop-number.invariant.seen d some)
      ∙ sym (any_more c.args.self.now.ops c.args.numbers.now c.loop-number.number-index
      (removes c.args.id c.args.name d) c.loop-number-test.true);
}
