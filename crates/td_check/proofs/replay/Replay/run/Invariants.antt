use Rattle.std.proofs.Common.{Bool, false}
use Rattle.td_law_replay.specs.Rounds.{Course}
use Rattle.td_check.specs.Course.{HasMoved, all_left}
use Rattle.td_check.specs.Sites.{histories_of, states_of}
use Rattle.td_check.proofs.replay.Replay.run.Given as goal

abbrev pub invariant-loop-stop : goal.invariant-loop-stop
invariant-loop-stop g l =
    ((was : Bool) × HasMoved l.initial.self l.self l.looks was)
    × Course (histories_of l.self) (states_of l.self) 1 false

abbrev pub decreases-loop-stop : goal.decreases-loop-stop
decreases-loop-stop g l = all_left l.self
