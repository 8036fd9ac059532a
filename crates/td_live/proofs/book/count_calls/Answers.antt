use Rattle.std.proofs.Common.{arith}
use Rattle.td_live.proofs.Drafts.{counted_next}
use Rattle.td_live.proofs.book.count_calls.Goals as goal

pub loop-one-preserved : goal.loop-one-preserved
loop-one-preserved c =
    counted_next c.args.did.now c.loop-one.one-index c.loop-one.count c.in_ok-count.count c.one-item.result
    (omega (arith, c.loop-one-test.true)) c.one-item.is c.loop-one.invariant c.in_ok-count.ensures
