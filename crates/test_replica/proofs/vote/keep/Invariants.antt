use Rattle.td_vote.specs.ByPlace.{ArePlaced}
use Rattle.test_replica.proofs.vote.keep.Given as goal

abbrev pub invariant-loop-proposal : goal.invariant-loop-proposal
invariant-loop-proposal l = ArePlaced l.doc l.holds

abbrev pub invariant-loop-told : goal.invariant-loop-told
invariant-loop-told l = ArePlaced l.doc l.holds
