use Rattle.std.proofs.Common.{◌≡◌, ◌≤◌, ◌+◌, ℕ, length, ap, ◌∙◌, subst, arith}
use Rattle.td_world.specs.World.{size, moved_all}
use Rattle.td_world.specs.Calls.{give_all_moves, give_all_given, IsStopped}
use Rattle.td_world.proofs.Cuts.{err_always}
use Rattle.td_world.proofs.Few.{few_sent}
use Rattle.td_world.proofs.Settling.{passing_size, passing_more, passing_stopped}
use Rattle.td_world.proofs.world.World.pass.Goals as goal

pub give_each-requires : goal.give_each-requires
give_each-requires g c =
    let same : size c.loop-place.self ≡ size c.args.self.now =
    passing_size (c.loop-place.place + 1) c.args.self.now c.loop-place.self c.loop-place.count
    c.loop-place.invariant.0 in
    omega (arith, same, c.at.ensures, c.loop-place-test.true, c.requires.all)

pub returns-in_err-given-clause-err : goal.returns-in_err-given-clause-err
returns-in_err-given-clause-err g c =
    let within : c.loop-place.place + 1 ≤ size c.args.self.now =
    omega (arith, c.loop-place-test.true, c.requires.all) in
    err_always c.from_residual.result
    (passing_stopped (c.loop-place.place + 1) c.args.self.now c.loop-place.self c.loop-place.count within
    c.loop-place.invariant.0 c.give_each.new.self
    (subst (λ (s : ℕ). IsStopped (give_all_moves s c.loop-place.self) c.loop-place.self c.give_each.new.self)
    c.at.ensures c.in_err-given.ensures.err))

pub overflow_add-count : goal.overflow_add-count
overflow_add-count g c =
    let sent : length c.loop-place.self.sent ≤ 268431360 = few_sent c.loop-place.self c.loop-place.invariant.1 in
    omega (arith, sent, c.in_ok-given.ensures.few, c.loop-place.invariant.3, c.loop-place-test.true, c.requires.few)

pub loop-place-preserved : goal.loop-place-preserved
loop-place-preserved g c =
    let within : c.loop-place.place + 1 ≤ size c.args.self.now =
    omega (arith, c.loop-place-test.true, c.requires.all) in
    let sent : length c.loop-place.self.sent ≤ 268431360 = few_sent c.loop-place.self c.loop-place.invariant.1 in
    let told : c.in_ok-given.given ≡ length (give_all_given (c.loop-place.place + 1) c.loop-place.self) =
    c.in_ok-given.ensures.count ∙ ap (λ (s : ℕ). length (give_all_given s c.loop-place.self)) c.at.ensures in (
      passing_more (c.loop-place.place + 1) c.args.self.now c.loop-place.self c.loop-place.count within
          c.loop-place.invariant.0 c.give_each.new.self (c.loop-place.count + c.in_ok-given.given)
          (c.in_ok-given.ensures.ok
          ∙ ap (λ (s : ℕ). moved_all (give_all_moves s c.loop-place.self) c.loop-place.self) c.at.ensures)
          (ap (λ (n : ℕ). c.loop-place.count + n) told),
      c.in_ok-given.ensures.world,
      c.requires.all,
      omega (arith, sent, c.in_ok-given.ensures.few, c.loop-place.invariant.3),
    )
