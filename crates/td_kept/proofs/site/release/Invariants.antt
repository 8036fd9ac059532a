use Rattle.std.proofs.Common.{◌≡◌, ◌-◌, ◌++◌, take, drop}
use Rattle.td_kept.proofs.site.release.Given as goal

abbrev pub invariant-loop-k : goal.invariant-loop-k
invariant-loop-k g l =
    l.sent.items ≡ l.fn.sent.items ++ take (l.k - l.before) (drop l.before l.replica.machine.sent)
