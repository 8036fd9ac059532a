use Rattle.td_check.specs.Course.{HasMoved, IsInRound}
use Rattle.td_check.proofs.replay.Replay.round.Given as goal

abbrev pub invariant-loop-place : goal.invariant-loop-place
invariant-loop-place g l =
    HasMoved l.initial.self l.self l.looks l.moved × IsInRound l.self l.place l.moved
