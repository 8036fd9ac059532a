use Rattle.std.proofs.Common.{◌≡◌, ◌≤◌, ◌<◌, ◌∙◌, List, ℕ, sym, ap, length, subst}
use Rattle.td_base.specs.Lists.{In}
use Rattle.td_base.specs.Value.{DotValue, IsDot}
use Rattle.td_base.specs.declared.dot.TheConstants.{MAX_SEQ}
use Rattle.td_clock.specs.Vector.{vector_get, vector_bump}
use Rattle.td_marks.specs.Index.{numbers_at}
use Rattle.td_marks.specs.Mark.{MarkOpValue}
use Rattle.td_marks.specs.Marks.{IsMarkOp, MarksValue, next_dot}
use Rattle.td_marks.specs.MarksParts.{AreMarksParts}
use Rattle.td_marks.proofs.Parts.{kept_parts, other_index, room_for}
use Rattle.td_marks.proofs.marks.Marks.keep.Goals as goal

pub invariant_of-self : goal.invariant_of-self
invariant_of-self c =
    other_index c.self.inside.site c.self.inside.have c.self.inside.ops.items c.self.inside.index c.self.invariant
    c.add_all.new.self c.add_all.ensures.kept

pub invariant_of-self-in_err-push : goal.invariant_of-self-in_err-push
invariant_of-self-in_err-push c =
    subst (λ (ops : List MarkOpValue). AreMarksParts c.self.inside.site c.self.inside.have ops c.add_all.new.self)
    (sym c.in_err-push.ensures.items)
    (other_index c.self.inside.site c.self.inside.have c.self.inside.ops.items c.self.inside.index c.self.invariant
    c.add_all.new.self c.add_all.ensures.kept)

pub bump-requires-clause-below : goal.bump-requires-clause-below
bump-requires-clause-below c =
    let dot : c.dot-dot.result ≡ c.args.op.dot = c.dot-dot.ensures.dot in
    let site : c.dot.inside.site ≡ c.args.op.dot.site = ap (λ (d : DotValue). d.site) (c.dot.view_is ∙ dot) in
    let within : c.args.op.dot.site ≤ length c.self.inside.have =
    subst (λ (m : MarksValue). c.args.op.dot.site ≤ m.size) (sym c.self.view_is) c.requires.op.site in
    subst (λ (s : ℕ). vector_get c.self.inside.have s < MAX_SEQ) (sym site)
    (room_for c.self.inside.site c.self.inside.have c.self.inside.ops.items c.self.inside.index c.self.invariant
    c.args.op (subst IsDot dot c.dot-dot.ensures.range) within
    (c.requires.next ∙ ap (λ (m : MarksValue). next_dot c.args.op.dot.site m.ops) (sym c.self.view_is)))

pub invariant_of-self-2 : goal.invariant_of-self-2
invariant_of-self-2 c =
    let dot : c.dot-dot.result ≡ c.args.op.dot = c.dot-dot.ensures.dot in
    let site : c.dot.inside.site ≡ c.args.op.dot.site = ap (λ (d : DotValue). d.site) (c.dot.view_is ∙ dot) in
    let is : IsMarkOp (length c.self.inside.have) c.args.op =
    subst (λ (m : MarksValue). IsMarkOp m.size c.args.op) (sym c.self.view_is) c.requires.op in
    let bumped : c.bump.new.self ≡ vector_bump c.self.inside.have c.args.op.dot.site =
    c.bump.ensures ∙ ap (vector_bump c.self.inside.have) site in
    rw (bumped, c.in_ok-push.ensures.items)
    (kept_parts c.self.inside.site c.self.inside.have c.self.inside.ops.items c.self.inside.index c.self.invariant
    c.args.op c.add_all.new.self is
    (subst (λ (d : DotValue). 1 ≤ d.site) dot c.dot-dot.ensures.range.site.least)
    (c.requires.next ∙ ap (λ (m : MarksValue). next_dot c.args.op.dot.site m.ops) (sym c.self.view_is))
    c.add_all.ensures.kept
    (λ x i. subst (λ (n : ℕ). In n (numbers_at c.add_all.new.self x)) c.sum-number.ensures
    (c.in_ok-add_all.ensures.listed x (subst (In x) (sym c.named.ensures) i))))
