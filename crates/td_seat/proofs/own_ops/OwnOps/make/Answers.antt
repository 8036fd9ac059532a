use Rattle.std.proofs.Common.{◌≡◌, arith}
use Rattle.td_law_replay.specs.Counting.{raised}
use Rattle.td_seat.specs.OwnOps.{with_more}
use Rattle.td_seat.proofs.OwnParts.{none_more, one_more}
use Rattle.td_seat.proofs.own_ops.OwnOps.make.Goals as goal

pub loop-init : goal.loop-init
loop-init c =
    let o = c.args.self.now in λ site n v told p. none_more site n v told o.site o.have o.is_past o.deps.rows p

pub loop-preserved : goal.loop-preserved
loop-preserved c =
    let o = c.make_one.new.self in
    let k = c.loop.counter in
    λ site n v told p.
    one_more site n k v told o.site o.have o.is_past o.deps.rows
    (c.in_ok-make_one.ensures.ok site n (raised site k v) (with_more site k v told) (c.loop.invariant site n v told p))

pub returns : goal.returns
returns c =
    let e : c.loop.counter ≡ c.args.count = omega (arith, c.loop-test.false, c.loop.auto.counter-end) in
    record { ok = λ site n v told p. rw (← e) (c.loop.invariant site n v told p) }
