use Rattle.std.proofs.Common.{arith, ◌≡◌}
use Rattle.td_peer.proofs.Openings.{opened_before, fresh_rows}
use Rattle.td_peer.proofs.opening.open_rows.Goals as goal

pub loop-before-preserved : goal.loop-before-preserved
loop-before-preserved c =
    let r =
    opened_before c.loop-before.before _ c.args.n c.args.loss c.loop-before.rows.items c.in_ok-rows.rows.items
    c.loop-before-test.true c.site_of.ensures c.loop-before.invariant.count c.loop-before.invariant.opened
    c.in_ok-rows.ensures in
    record { count = r.0; opened = r.1 }

pub returns-clause-fresh : goal.returns-clause-fresh
returns-clause-fresh c =
    let none : c.loop-before.before ≡ 0 = omega (arith, c.loop-before-test.false) in
    fresh_rows c.loop-before.before c.args.n c.args.loss c.loop-before.rows.items none c.loop-before.invariant.count
    c.loop-before.invariant.opened
