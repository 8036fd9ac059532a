use Rattle.std.proofs.Common.{◌≡◌, ◌+◌, ◌++◌, [], ◌∷◌, ℕ, ap, sym, subst, arith, ◌∙◌}
use Rattle.td_machine.specs.Machine.{Machine, start}
use Rattle.td_check.specs.ReplayParts.{AreStarted}
use Rattle.td_check.proofs.Starting.{some_started}
use Rattle.td_check.proofs.opening.seats_of.Goals as goal

pub loop-place-preserved : goal.loop-place-preserved
loop-place-preserved g c =
    subst (AreStarted c.args.n (c.loop-place.place + 1))
    (sym (c.in_ok-push.ensures.items
    ∙ ap (λ (m : Machine). c.loop-place.seats.items ++ m ∷ [])
    (c.in_ok-seat.ensures ∙ ap (λ (k : ℕ). start k c.args.n) c.at.ensures)))
    (some_started c.args.n c.loop-place.place c.loop-place.seats.items c.loop-place.invariant)

pub returns : goal.returns
returns g c =
    let past = c.loop-place-test.false in
    let most = c.loop-place.auto.place-end in
    let all : c.loop-place.place ≡ c.args.n = omega (arith, past, most) in
    subst (λ (k : ℕ). AreStarted c.args.n k c.loop-place.seats.items) all c.loop-place.invariant
