use Rattle.std.proofs.Common.{true≢false, sym, ap, drop, ◌+◌, ◌∙◌, refl}
use Rattle.td_base.specs.Value.{DotValue}
use Rattle.td_order.specs.LineUp.{has_dot}
use Rattle.td_order.proofs.Differ.{differ_next, differ_not, differ_all, to_end}
use Rattle.td_order.proofs.line_up.dots_differ.Goals as goal

pub returns-then-has_dot : goal.returns-then-has_dot
returns-then-has_dot c = (
  (λ h. absurd (true≢false (sym h))),
  (λ d. absurd (differ_not c.args.ops.now c.loop-i.i c.index-ops-i.result c.index-ops-i.is c.loop-i-test.true
      c.loop-i.invariant (ap (λ (d : DotValue). has_dot d (drop (c.loop-i.i + 1) c.args.ops.now))
      (sym c.dot.ensures.dot) ∙ (ap (has_dot c.dot.result) (sym (to_end (c.loop-i.i + 1) c.args.ops.now))
      ∙ (sym c.has_dot.ensures ∙ c.if-has_dot.true))) d)),
)

pub loop-i-preserved : goal.loop-i-preserved
loop-i-preserved c =
    differ_next c.args.ops.now c.loop-i.i c.index-ops-i.result c.index-ops-i.is c.loop-i-test.true c.loop-i.invariant
    (ap (λ (d : DotValue). has_dot d (drop (c.loop-i.i + 1) c.args.ops.now)) (sym c.dot.ensures.dot)
    ∙ (ap (has_dot c.dot.result) (sym (to_end (c.loop-i.i + 1) c.args.ops.now))
    ∙ (sym c.has_dot.ensures ∙ c.if-has_dot.false)))

pub returns : goal.returns
returns c = ((λ h. differ_all c.args.ops.now c.loop-i.i c.loop-i-test.false c.loop-i.invariant), (λ d. refl))
