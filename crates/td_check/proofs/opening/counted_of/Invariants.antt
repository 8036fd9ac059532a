use Rattle.std.proofs.Common.{take}
use Rattle.td_law_replay.specs.Traced.{site_entries}
use Rattle.td_seat.specs.Counted.{AreCounted}
use Rattle.td_check.proofs.opening.counted_of.Given as goal

abbrev pub invariant-loop-k : goal.invariant-loop-k
invariant-loop-k l =
    AreCounted l.site l.trace.sites (take l.k (site_entries l.trace.histories l.site)) l.counted
