use Rattle.std.proofs.Common.{◌+◌, refl, ap, ◌∙◌, sym, arith}
use Rattle.td_world.specs.World.{size}
use Rattle.td_world.specs.Calls.{IsSettled, passes}
use Rattle.td_world.specs.Promises.{NobodyReady}
use Rattle.td_world.proofs.Cuts.{err_always}
use Rattle.td_world.proofs.Ending.{settling_enough, settled_three}
use Rattle.td_world.proofs.Moves.{size_after}
use Rattle.td_world.proofs.Settling.{settling_none, settling_more, settling_done, settling_stopped}
use Rattle.td_world.proofs.Settling.{settled_nobody, settled_same, settled_all}
use Rattle.td_world.proofs.world.World.settle.Given.{Over}
use Rattle.td_world.proofs.world.World.settle.Goals as goal

pub loop-init : goal.loop-init
loop-init g c = (settling_none c.args.self.now, c.size-sites.ensures.world, c.size-sites.ensures.size, omega arith)

pub pass-requires-clause-all : goal.pass-requires-clause-all
pass-requires-clause-all g c =
    c.loop.invariant.2
    ∙ sym (ap size c.loop.invariant.0.after ∙ size_after (passes c.loop.counter c.args.self.now) c.args.self.now)

pub returns-in_err-more-clause-err : goal.returns-in_err-more-clause-err
returns-in_err-more-clause-err g c =
    err_always c.from_residual.result
    (settling_stopped c.loop.counter c.args.self.now c.loop.self c.pass.new.self c.loop.given c.loop.invariant.0
    c.in_err-more.ensures.err)

done : (g : Over) (c : goal.Then-still g) → IsSettled c.args.self.now c.pass.new.self c.loop.given
done g c =
    settling_done c.loop.counter c.args.self.now c.loop.self c.pass.new.self c.loop.given c.in_ok-more.more
    c.loop.invariant.0
    c.in_ok-more.ensures.ok c.in_ok-more.ensures.count c.if-still.true

pub returns-then-still-clause-given : goal.returns-then-still-clause-given
returns-then-still-clause-given g c = done g c

pub returns-then-still-clause-three : goal.returns-then-still-clause-three
returns-then-still-clause-three g c =
    λ (h : NobodyReady c.args.self.now).
    settled_three c.args.self.now c.pass.new.self c.loop.given c.size-sites.ensures.world h (done g c)

pub returns-then-still-clause-vectors : goal.returns-then-still-clause-vectors
returns-then-still-clause-vectors g c =
    λ (h : NobodyReady c.args.self.now).
    settled_same c.args.self.now c.pass.new.self c.loop.given c.in_ok-more.ensures.world (done g c) h

pub returns-then-still-clause-decided : goal.returns-then-still-clause-decided
returns-then-still-clause-decided g c =
    λ (h : NobodyReady c.args.self.now).
    settled_all c.args.self.now c.pass.new.self c.loop.given c.in_ok-more.ensures.world (done g c) h

pub returns-then-still-clause-nobody : goal.returns-then-still-clause-nobody
returns-then-still-clause-nobody g c =
    λ (h : NobodyReady c.args.self.now).
    settled_nobody c.args.self.now c.pass.new.self c.loop.given c.in_ok-more.ensures.world (done g c) h

pub loop-preserved : goal.loop-preserved
loop-preserved g c = (
  settling_more c.loop.counter c.args.self.now c.loop.self c.pass.new.self c.loop.given c.in_ok-more.more
      (c.loop.given + c.in_ok-more.more) c.loop.invariant.0 c.in_ok-more.ensures.ok c.in_ok-more.ensures.count refl,
  c.in_ok-more.ensures.world,
  c.loop.invariant.2,
  omega (arith, c.loop.invariant.3, c.in_ok-more.ensures.few),
)

last : (g : Over) (c : goal.After-loop g) → IsSettled c.args.self.now c.loop.self c.loop.given
last g c =
    settling_enough c.loop.counter c.args.self.now c.loop.self c.loop.given c.size-sites.ensures.world
    c.loop.invariant.0
    (omega (arith, c.loop-test.false, c.loop.auto.counter-end, c.size-sites.ensures.size))

pub returns-clause-given : goal.returns-clause-given
returns-clause-given g c = last g c

pub returns-clause-three : goal.returns-clause-three
returns-clause-three g c =
    λ (h : NobodyReady c.args.self.now).
    settled_three c.args.self.now c.loop.self c.loop.given c.size-sites.ensures.world h (last g c)

pub returns-clause-vectors : goal.returns-clause-vectors
returns-clause-vectors g c =
    λ (h : NobodyReady c.args.self.now).
    settled_same c.args.self.now c.loop.self c.loop.given c.loop.invariant.1 (last g c) h

pub returns-clause-decided : goal.returns-clause-decided
returns-clause-decided g c =
    λ (h : NobodyReady c.args.self.now).
    settled_all c.args.self.now c.loop.self c.loop.given c.loop.invariant.1 (last g c) h

pub returns-clause-nobody : goal.returns-clause-nobody
returns-clause-nobody g c =
    λ (h : NobodyReady c.args.self.now).
    settled_nobody c.args.self.now c.loop.self c.loop.given c.loop.invariant.1 (last g c) h
