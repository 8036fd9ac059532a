use Rattle.std.proofs.Common.{◌≡◌, ℕ, true, false, sym, ap, ◌∙◌, subst, arith}
use Rattle.td_replica.specs.Replica.{ReplicaValue, has_ready}
use Rattle.td_world.specs.World.{size, machine_of, moved_all}
use Rattle.td_world.specs.Calls.{nexts, IsStopped}
use Rattle.td_world.proofs.Cuts.{err_always}
use Rattle.td_world.proofs.Going.{doing_size, going_more, going_stopped, going_off}
use Rattle.td_world.proofs.world.World.go_on.Goals as goal

pub replica-requires-in-loop-k : goal.replica-requires-in-loop-k
replica-requires-in-loop-k g c =
    let same : size c.loop-k.self ≡ size c.args.self.now =
    doing_size _ _ c.args.self.now c.loop-k.self c.loop-k.invariant.0.doing in
    omega (arith, same, c.requires)

pub take_next-requires : goal.take_next-requires
take_next-requires g c =
    let same : size c.loop-k.self ≡ size c.args.self.now =
    doing_size _ _ c.args.self.now c.loop-k.self c.loop-k.invariant.0.doing in
    omega (arith, same, c.requires)

pub returns-then-not-ready-clause-ok : goal.returns-then-not-ready-clause-ok
returns-then-not-ready-clause-ok g c =
    let none : has_ready (machine_of c.loop-k.self c.args.site) ≡ false =
    ap (λ (r : ReplicaValue). has_ready r.machine) (sym c.replica-in-loop-k.ensures.replica) ∙ sym c.ready.ensures
    ∙ c.if-not-ready.true in
    (going_off c.args.site c.waiting-waiting.result c.loop-k.k c.args.self.now c.loop-k.self c.loop-k.invariant.0
    none).0
    ∙ ap (λ (k : ℕ). moved_all (nexts k c.args.site c.args.self.now) c.args.self.now) c.loop-k.invariant.2

pub returns-in_err-take_next-clause-err : goal.returns-in_err-take_next-clause-err
returns-in_err-take_next-clause-err g c =
    let on : has_ready (machine_of c.loop-k.self c.args.site) ≡ true =
    ap (λ (r : ReplicaValue). has_ready r.machine) (sym c.replica-in-loop-k.ensures.replica) ∙ sym c.ready.ensures
    ∙ c.if-not-ready.false in
    err_always c.from_residual.result
    (subst (λ (k : ℕ). IsStopped (nexts k c.args.site c.args.self.now) c.args.self.now c.take_next.new.self)
    c.loop-k.invariant.2
    (going_stopped c.args.site c.waiting-waiting.result c.loop-k.k c.args.self.now c.loop-k.self c.take_next.new.self
    c.loop-k-test.true c.loop-k.invariant.0 on c.in_err-take_next.ensures.err))

pub loop-k-preserved : goal.loop-k-preserved
loop-k-preserved g c =
    let on : has_ready (machine_of c.loop-k.self c.args.site) ≡ true =
    ap (λ (r : ReplicaValue). has_ready r.machine) (sym c.replica-in-loop-k.ensures.replica) ∙ sym c.ready.ensures
    ∙ c.if-not-ready.false in (
      going_more c.args.site c.waiting-waiting.result c.loop-k.k c.args.self.now c.loop-k.self c.take_next.new.self
          c.loop-k-test.true c.loop-k.invariant.0 on c.in_ok-take_next.ensures.ok,
      c.in_ok-take_next.ensures.world,
      c.loop-k.invariant.2,
    )
