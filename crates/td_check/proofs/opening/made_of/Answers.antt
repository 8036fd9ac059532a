use Rattle.std.proofs.Common.{◌<◌, ℕ, length, subst}
use Rattle.td_check.proofs.Starting.{made_on}
use Rattle.td_check.proofs.opening.made_of.Goals as goal

pub loop-place-init : goal.loop-place-init
loop-place-init c = c.new-made.ensures (length c.args.trace.now.histories)

pub loop-place-preserved : goal.loop-place-preserved
loop-place-preserved c =
    made_on c.args.trace.now c.sites-place-end.ensures.value c.loop-place.place c.at.result (subst (λ
    (n : ℕ). c.loop-place.place < n) c.sites-place-end.ensures.sites c.loop-place-test.true)
    c.at.ensures c.loop-place.made c.push.new.self c.in_ok-counted.counted c.in_ok-push.ensures.ok
    c.loop-place.invariant c.in_ok-counted.ensures
