use Rattle.td_check.specs.ReplayParts.{AreStarted}
use Rattle.td_check.proofs.opening.seats_of.Given as goal

abbrev pub invariant-loop-place : goal.invariant-loop-place
invariant-loop-place g l = AreStarted l.n l.place l.seats.items
