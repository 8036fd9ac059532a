use Rattle.std.proofs.Common.{take, length}
use Rattle.td_seat.specs.Made.{AreMade}
use Rattle.td_check.proofs.opening.made_of.Given as goal

abbrev pub invariant-loop-place : goal.invariant-loop-place
invariant-loop-place l = AreMade (length l.trace.histories) (take l.place l.trace.histories) l.made
