use Rattle.std.proofs.Common.{◌≡◌, ◌≤◌, ◌∙◌, sym, ap, length, subst, arith}
use Rattle.td_base.specs.Value.{DotValue}
use Rattle.td_clock.specs.Vector.{vector_get, vector_has}
use Rattle.td_marks.specs.Mark.{MarkOpValue}
use Rattle.td_marks.specs.Marks.{MarksValue}
use Rattle.td_marks.specs.Taking.{take_answer}
use Rattle.td_marks.proofs.Parts.{IsOfSize, answer_repeat, answer_gap, answer_new}
use Rattle.td_marks.proofs.marks.Marks.answer.Goals as goal

pub returns-then-has : goal.returns-then-has
returns-then-has c =
    let dot = c.dot-dot.ensures.dot in
    let site : c.dot.inside.site ≡ c.args.op.now.dot.site = ap (λ (d : DotValue). d.site) (c.dot.view_is ∙ dot) in
    let s : IsOfSize (length c.self.inside.have) c.args.op.now = record {
      size = ap (λ (o : MarkOpValue). length o.seen) (sym c.op.view_is) ∙ sym c.size.ensures.size
          ∙ c.if-size.false ∙ c.size-2.ensures.size;
      first = subst (λ (d : DotValue). 1 ≤ d.site) dot c.dot-dot.ensures.range.site.least;
      within = omega (arith, site, c.number.ensures.value, c.if-number-size.false, c.size-else-size.ensures.size);
      seq = subst (λ (d : DotValue). 1 ≤ d.seq) dot c.dot-dot.ensures.range.least;
    } in
    answer_repeat c.self.inside.site c.self.inside.have c.self.inside.ops.items c.self.inside.index c.self.invariant
    c.args.op.now s (ap (vector_has c.self.inside.have) (sym dot) ∙ sym c.has.ensures ∙ c.if-has.true)
    ∙ ap (λ (m : MarksValue). take_answer m c.args.op.now) c.self.view_is

pub returns-then-seq-want : goal.returns-then-seq-want
returns-then-seq-want c =
    let dot = c.dot-dot.ensures.dot in
    let site : c.dot.inside.site ≡ c.args.op.now.dot.site = ap (λ (d : DotValue). d.site) (c.dot.view_is ∙ dot) in
    let s : IsOfSize (length c.self.inside.have) c.args.op.now = record {
      size = ap (λ (o : MarkOpValue). length o.seen) (sym c.op.view_is) ∙ sym c.size.ensures.size
          ∙ c.if-size.false ∙ c.size-2.ensures.size;
      first = subst (λ (d : DotValue). 1 ≤ d.site) dot c.dot-dot.ensures.range.site.least;
      within = omega (arith, site, c.number.ensures.value, c.if-number-size.false, c.size-else-size.ensures.size);
      seq = subst (λ (d : DotValue). 1 ≤ d.seq) dot c.dot-dot.ensures.range.least;
    } in
    let seq : c.dot.inside.seq ≡ c.args.op.now.dot.seq = ap (λ (d : DotValue). d.seq) (c.dot.view_is ∙ dot) in
    answer_gap c.self.inside.site c.self.inside.have c.self.inside.ops.items c.self.inside.index c.self.invariant
    c.args.op.now c.get-want.result s
    (ap (vector_has c.self.inside.have) (sym dot) ∙ sym c.has.ensures ∙ c.if-has.false)
    (c.get-want.ensures.number ∙ ap (vector_get c.self.inside.have) site)
    (omega (arith, seq, c.if-seq-want.true))
    ∙ ap (λ (m : MarksValue). take_answer m c.args.op.now) c.self.view_is

pub returns : goal.returns
returns c =
    let dot = c.dot-dot.ensures.dot in
    let site : c.dot.inside.site ≡ c.args.op.now.dot.site = ap (λ (d : DotValue). d.site) (c.dot.view_is ∙ dot) in
    let s : IsOfSize (length c.self.inside.have) c.args.op.now = record {
      size = ap (λ (o : MarkOpValue). length o.seen) (sym c.op.view_is) ∙ sym c.size.ensures.size
          ∙ c.if-size.false ∙ c.size-2.ensures.size;
      first = subst (λ (d : DotValue). 1 ≤ d.site) dot c.dot-dot.ensures.range.site.least;
      within = omega (arith, site, c.number.ensures.value, c.if-number-size.false, c.size-else-size.ensures.size);
      seq = subst (λ (d : DotValue). 1 ≤ d.seq) dot c.dot-dot.ensures.range.least;
    } in
    let seq : c.dot.inside.seq ≡ c.args.op.now.dot.seq = ap (λ (d : DotValue). d.seq) (c.dot.view_is ∙ dot) in
    answer_new c.self.inside.site c.self.inside.have c.self.inside.ops.items c.self.inside.index c.self.invariant
    c.args.op.now c.get-want.result s
    (ap (vector_has c.self.inside.have) (sym dot) ∙ sym c.has.ensures ∙ c.if-has.false)
    (c.get-want.ensures.number ∙ ap (vector_get c.self.inside.have) site)
    (omega (arith, seq, c.if-seq-want.false))
    ∙ ap (λ (m : MarksValue). take_answer m c.args.op.now) c.self.view_is
