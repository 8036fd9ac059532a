use Rattle.td_check.specs.Unsent.{AreKnownTo}
use Rattle.td_check.proofs.votes.first_unknown.Given as goal

abbrev pub invariant-loop-place : goal.invariant-loop-place
invariant-loop-place l = AreKnownTo l.sent l.trace l.place
