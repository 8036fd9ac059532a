use Rattle.std.proofs.Common.{◌≡◌, ◌∙◌, sym}
use Rattle.std.proofs.lemmas.Bool.{not-false}
use Rattle.td_base.proofs.Equals.{same_dot_true}
use Rattle.td_clock.proofs.VectorLemmas.{same_vector_true}
use Rattle.td_replica.proofs.same.same_op.Goals as goal

pub returns : goal.returns
returns c = λ h.
    let dots : c.args.a.now.dot ≡ c.args.b.now.dot =
    sym c.dot.ensures.dot ∙ same_dot_true c.dot.result c.dot-2.result (not-false _ (sym c.ne.ensures ∙ c.if-ne.false))
    ∙ c.dot-2.ensures.dot in
    let deps : c.args.a.now.deps ≡ c.args.b.now.deps =
    sym c.deps.ensures.deps
    ∙ same_vector_true c.deps.result.now c.deps-2.result.now (not-false _ (sym c.ne-2.ensures ∙ c.if-ne-2.false))
    ∙ c.deps-2.ensures.deps in
    let bodies : c.args.a.now.body ≡ c.args.b.now.body =
    sym c.body_ref.ensures.body ∙ c.same_body.ensures h ∙ c.body_ref-2.ensures.body in
    λ i. record { dot = dots i; deps = deps i; body = bodies i }
