use Rattle.std.proofs.Common.{◌+◌, ◌∙◌, ap, sym, arith}
use Rattle.td_rope.proofs.Results.{of_ok}
use Rattle.td_rope.proofs.Joined.{more_within, length_more, bytes_more}
use Rattle.td_rope.proofs.stretch.push_parts.Goals as goal

pub overflow_add-start : goal.overflow_add-start
overflow_add-start g c =
    let within = more_within g.P.Part.atoms c.args.parts.now c.loop-part.part-index c.part-item.result c.loop-part.start
    c.loop-part-test.true c.part-item.is c.loop-part.invariant.0 in
    omega (arith, c.requires, c.len-start.ensures, within)

pub loop-part-preserved : goal.loop-part-preserved
loop-part-preserved g c =
    let f = g.P.Part.atoms in
    let ps = c.args.parts.now in
    let i = c.loop-part.part-index in
    let d = c.part-item.result in
    let start = c.loop-part.start in
    let now = c.loop-part.invariant in
    let pushed = of_ok c.push_part.result _ (sym c.is_err.ensures.value ∙ c.if-is_err.false) c.push_part.ensures.ok in (
      ap (λ n. start + n) c.len-start.ensures ∙ length_more f ps i d start c.loop-part-test.true c.part-item.is now.0,
      now.1,
      bytes_more f ps i d c.args.from c.args.to start c.args.text.now c.loop-part.text c.push_part.new.text
          c.loop-part-test.true c.part-item.is now.0 now.2 pushed,
    )
