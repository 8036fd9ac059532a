use Rattle.std.proofs.Common.{◌≡◌, length}
use Rattle.td_world.specs.World.{IsWorld}
use Rattle.td_world.proofs.Giving.{IsGiving}
use Rattle.td_world.proofs.world.World.give_all.Given as goal

abbrev pub invariant-loop-k : goal.invariant-loop-k
invariant-loop-k g l =
    IsGiving l.to l.k l.fn.self l.self l.given.items × IsWorld l.self × (l.k-end ≡ length l.fn.self.sent)
