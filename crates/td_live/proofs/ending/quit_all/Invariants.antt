use Rattle.std.proofs.Common.{length}
use Rattle.td_live.proofs.ending.quit_all.Given as goal

abbrev pub invariant-loop-workers : goal.invariant-loop-workers
invariant-loop-workers g l = Unit {0}

abbrev pub decreases-loop-workers : goal.decreases-loop-workers
decreases-loop-workers g l = length l.workers.items
