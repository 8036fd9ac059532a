use Rattle.std.proofs.Common.{◌≡◌, Some, sym, ap, ◌∙◌, rules}
use Rattle.std.specs.Prelude.{reverse, take}
use Rattle.std.specs.Fn.{FnReturnsAt}
use Rattle.td_machine.specs.Hold.{Hold, held_by, smaller_dot}
use Rattle.td_vote.proofs.Newest.{held_more, held_same}
use Rattle.td_vote.proofs.held.least_held.Goals as goal
use Rattle.td_vote.proofs.held.least_held.Goals.{then-test, else-test}

pub loop-held-preserved : goal.loop-held-preserved
loop-held-preserved g c = λ passes says.
    let holds = c.args.holds.now in
    let i = c.loop-held.held-index in
    let h : Hold = c.held-item.result in
    let called : FnReturnsAt g.F.Fn c.args.test c.held.inside.slot c.test.result = search rules in
    let tested : c.test.result ≡ passes h.slot =
    says c.held.inside.slot c.test.result called ∙ ap (λ (k : Hold). passes k.slot) c.held.view_is in
    let so_far : c.loop-held.least ≡ held_by passes (reverse (take i holds)) = c.loop-held.invariant passes says in
    let within = c.loop-held-test.true in
    let is = c.held-item.is in
    elim c.if-test.branch [
      | then-test w ↦
          w.least-is
          ∙ ap Some w.smaller.ensures
          ∙ (λ k. Some (smaller_dot (c.held.view_is k).proposal (so_far k)))
          ∙ held_more passes holds i h within is (sym tested ∙ w.if-test.true)
      | else-test w ↦ w.least-is ∙ so_far ∙ held_same passes holds i h within is (sym tested ∙ w.if-test.false)
    ]
