use Rattle.td_law_replay.specs.Traced.{site_entries}
use Rattle.td_check.specs.Unsent.{AreKnownUpto}
use Rattle.td_check.proofs.votes.first_of.Given as goal

abbrev pub invariant-loop-k : goal.invariant-loop-k
invariant-loop-k l = AreKnownUpto l.sent (site_entries l.trace.histories l.site) l.k
