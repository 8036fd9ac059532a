use Rattle.td_vote.specs.ByPlace.{ArePlaced}
use Rattle.test_replica.proofs.vote.hold_sides.Given as goal

abbrev pub invariant-loop-seq : goal.invariant-loop-seq
invariant-loop-seq l = ArePlaced l.doc l.holds
