use Rattle.std.proofs.Common.{◌≡◌, ◌+◌, [], ℕ, sym, subst}
use Rattle.td_check.proofs.AloneCounts.{rows_more}
use Rattle.td_check.specs.Alone.{AreRows, IsRowOfCalls}
use Rattle.td_check.proofs.alone.no_counts.Goals as goal

pub loop-n-preserved : goal.loop-n-preserved
loop-n-preserved c =
    let t = c.args.trace.now in
    let site : c.at.result ≡ c.loop-n.n + 1 = c.at.ensures in
    let row : IsRowOfCalls t [] (c.loop-n.n + 1) c.in_ok-row.row.items =
    subst (λ (s : ℕ). IsRowOfCalls t [] s c.in_ok-row.row.items) site c.in_ok-row.ensures in
    subst (AreRows t [] (c.loop-n.n + 1)) (sym c.in_ok-push.ensures.items)
    (rows_more t c.loop-n.n c.loop-n.rows.items c.in_ok-row.row row c.loop-n.invariant)
