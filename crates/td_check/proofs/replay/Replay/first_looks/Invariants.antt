use Rattle.td_check.specs.Course.{AreFirstSeen}
use Rattle.td_check.proofs.replay.Replay.first_looks.Given as goal

abbrev pub invariant-loop-place : goal.invariant-loop-place
invariant-loop-place g l = AreFirstSeen l.self l.place l.looks
