use Rattle.std.proofs.Common.{◌≡◌, ◌∙◌, ℕ, List, Option, subst, sym}
use Rattle.std.specs.Prelude.{IfSome}
use Rattle.td_doc.specs.Document.{live_atoms}
use Rattle.td_session.proofs.Steps.{follows}
use Rattle.td_session.proofs.session.Session.step_on.Goals as goal

pub invariant_of-self-in-Some-2 : goal.invariant_of-self-in-Some-2
invariant_of-self-in-Some-2 c =
    let rows = c.self.inside.replica.machine.doc in
    follows c.self.inside.replica c.step_on.new.self c.args.input.now c.last_change.result c.in-Some.rope
    c.followed.result c.entries-entries.ensures.replica c.is_in_range.ensures
    (subst (λ (rope : Option (List (List ℕ))). IfSome rope (λ atoms. atoms ≡ live_atoms rows))
    (sym c.take.ensures.value ∙ c.in-Some.is) c.self.invariant)
    c.in_ok-reply.ensures.ok c.last_change.ensures c.followed.ensures
