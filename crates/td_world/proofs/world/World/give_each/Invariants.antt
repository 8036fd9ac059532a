use Rattle.std.proofs.Common.{◌≡◌, length}
use Rattle.td_world.specs.World.{IsWorld}
use Rattle.td_world.proofs.Giving.{IsCounting}
use Rattle.td_world.proofs.world.World.give_each.Given as goal

abbrev pub invariant-loop-k : goal.invariant-loop-k
invariant-loop-k g l =
    IsCounting l.to l.k l.fn.self l.self l.count × IsWorld l.self × (l.k-end ≡ length l.fn.self.sent)
