use Rattle.td_check.specs.Course.{IsGoing, all_left}
use Rattle.td_check.proofs.replay.Replay.go.Given as goal

abbrev pub invariant-loop-self : goal.invariant-loop-self
invariant-loop-self g l = IsGoing l.site l.initial.self l.self l.looks l.moved

abbrev pub decreases-loop-self : goal.decreases-loop-self
decreases-loop-self g l = all_left l.self
