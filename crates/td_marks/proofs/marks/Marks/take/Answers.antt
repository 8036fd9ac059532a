use Rattle.std.proofs.Common.{◌≡◌, ◌∙◌, sym, subst}
use Rattle.td_marks.specs.Mark.{MarkOpValue}
use Rattle.td_marks.specs.Marks.{IsInTurn, MarksValue, next_dot}
use Rattle.td_marks.proofs.Parts.{taken_next}
use Rattle.td_marks.proofs.marks.Marks.take.Goals as goal

pub keep-requires-clause-next : goal.keep-requires-clause-next
keep-requires-clause-next c =
    subst (λ (o : MarkOpValue). o.dot ≡ next_dot o.dot.site c.args.self.now.ops) (sym c.in_ok-copied.ensures.copy)
    (taken_next c.args.self.now c.args.op.now
    (subst (λ (m : MarksValue). IsInTurn m.ops) c.self.view_is c.self.invariant.marks.turn)
    c.copied.ensures.range.least (sym c.answer-answer.ensures ∙ c.in-New.is))
