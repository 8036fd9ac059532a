use Rattle.std.proofs.Common.{◌≡◌, map, take}
use Rattle.td_live.proofs.Seats.{count_of}
use Rattle.td_live.proofs.live.calls_of.Given as goal

abbrev pub invariant-loop-own : goal.invariant-loop-own
invariant-loop-own l = l.counts.items ≡ map count_of (take l.own-index l.lines)
