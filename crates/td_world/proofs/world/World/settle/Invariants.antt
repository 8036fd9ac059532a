use Rattle.std.proofs.Common.{◌≡◌, ◌≤◌, ◌*◌}
use Rattle.td_world.specs.World.{IsWorld, size}
use Rattle.td_world.proofs.Settling.{IsSettling}
use Rattle.td_world.proofs.world.World.settle.Given as goal

abbrev pub invariant-loop : goal.invariant-loop
invariant-loop g l =
    IsSettling l.counter l.fn.self l.self l.given × IsWorld l.self × (l.sites ≡ size l.fn.self)
    × (l.given ≤ l.counter * 17179607040)
