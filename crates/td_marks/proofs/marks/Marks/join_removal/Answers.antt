use Rattle.std.proofs.Common.{◌≡◌, ◌∙◌, sym, ap, refl, inl, inr, length, Some}
use Rattle.std.specs.Prelude.{slice_get}
use Rattle.std.proofs.lemmas.Option.{slice_get_read}
use Rattle.td_clock.specs.Vector.{vector_join}
use Rattle.td_marks.specs.Mark.{MarkOpValue}
use Rattle.td_marks.specs.Marks.{MarksValue}
use Rattle.td_marks.proofs.Names.{joined_size, joined_seen, nothing_seen}
use Rattle.td_marks.proofs.Parts.{op_at}
use Rattle.td_marks.proofs.marks.Marks.join_removal.Goals.{In-Some, else-not-op-via-then-not-op+else-is_about}
use Rattle.td_marks.proofs.marks.Marks.join_removal.Goals.{else-not-op-via-else-not-op}
use Rattle.td_marks.proofs.marks.Marks.join_removal.Goals as goal

-- the operation that is found
there : (c : In-Some) → slice_get c.self.inside.ops.items c.args.number ≡ Some c.in-Some.op.now
there c =
    ap (λ l. slice_get l c.args.number) (sym c.deref.ensures.value)
    ∙ slice_get_read c.deref.result.now (length c.deref.result.now) c.args.number c.in-Some.op.now refl
    c.in-Some.ensures.lookup.3.0 c.in-Some.ensures.lookup.1

again : (c : In-Some) → slice_get c.args.self.now.ops c.args.number ≡ Some c.in-Some.op.now
again c = ap (λ (m : MarksValue). slice_get m.ops c.args.number) (sym c.self.view_is) ∙ there c

pub returns-then-is_about-clause-size : goal.returns-then-is_about-clause-size
returns-then-is_about-clause-size c =
    let is = op_at c.self.inside.site c.self.inside.have c.self.inside.ops.items c.self.inside.index c.self.invariant
    c.args.number c.in-Some.op.now (there (goal.at.returns-then-is_about-clause-size c).In-Some) in
    joined_size c.args.self.now.size c.args.removed.now c.join.new.self c.in-Some.op.now c.requires.size
    (is.size ∙ ap (λ (m : MarksValue). m.size) c.self.view_is)
    (c.join.ensures ∙ ap (λ (o : MarkOpValue). vector_join c.args.removed.now o.seen) c.op.view_is)

pub returns-then-is_about-clause-dots : goal.returns-then-is_about-clause-dots
returns-then-is_about-clause-dots c =
    joined_seen c.args.id c.args.name c.in-Some.op.now (slice_get c.args.self.now.ops c.args.number)
    c.args.removed.now c.join.new.self (again (goal.at.returns-then-is_about-clause-dots c).In-Some)
    (sym (ap (λ (o : MarkOpValue). o.add) c.op.view_is) ∙ c.if-not-op.true)
    (sym c.is_about.ensures ∙ c.if-is_about.true)
    (c.join.ensures ∙ ap (λ (o : MarkOpValue). vector_join c.args.removed.now o.seen) c.op.view_is)

pub returns-else-not-op-clause-dots : goal.returns-else-not-op-clause-dots
returns-else-not-op-clause-dots c =
    nothing_seen c.args.id c.args.name c.in-Some.op.now (slice_get c.args.self.now.ops c.args.number)
    c.args.removed.now (again (goal.at.returns-else-not-op-clause-dots c).In-Some)
    (elim c.else-not-op.branch [
      | else-not-op-via-then-not-op+else-is_about w ↦ inr (sym w.is_about.ensures ∙ w.if-is_about.false)
      | else-not-op-via-else-not-op w ↦ inl (sym (ap (λ (o : MarkOpValue). o.add) c.op.view_is) ∙ w.if-not-op.false)
    ])
