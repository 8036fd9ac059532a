use Rattle.std.proofs.Common.{◌≡◌, length}
use Rattle.td_world.specs.World.{IsWorld, machine_of}
use Rattle.td_world.proofs.Going.{IsGoing}
use Rattle.td_world.proofs.world.World.go_on.Given as goal

abbrev pub invariant-loop-k : goal.invariant-loop-k
invariant-loop-k g l =
    IsGoing l.site l.waiting l.k l.fn.self l.self × IsWorld l.self
    × (l.waiting ≡ length (machine_of l.fn.self l.site).waiting)
