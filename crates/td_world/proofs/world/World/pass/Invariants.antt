use Rattle.std.proofs.Common.{◌≡◌, ◌≤◌, ◌+◌, ◌*◌}
use Rattle.td_world.specs.World.{IsWorld, size}
use Rattle.td_world.proofs.Settling.{IsPassing}
use Rattle.td_world.proofs.world.World.pass.Given as goal

abbrev pub invariant-loop-place : goal.invariant-loop-place
invariant-loop-place g l =
    IsPassing (l.place + 1) l.fn.self l.self l.count × IsWorld l.self × (l.sites ≡ size l.fn.self)
    × (l.count ≤ l.place * 268431360)
