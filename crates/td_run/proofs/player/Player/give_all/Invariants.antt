use Rattle.std.proofs.Common.{◌≡◌, ◌≤◌, ◌+◌, ℕ, length, drop, Some}
use Rattle.std.specs.List.{slice_get}
use Rattle.td_op.specs.declared.message.Message.{Message}
use Rattle.td_world.specs.World.{size}
use Rattle.td_run.specs.Printing.{and_then, give_each}
use Rattle.td_run.proofs.player.Player.give_all.Given as goal

abbrev pub invariant-loop-number : goal.invariant-loop-number
invariant-loop-number g l = record {
  same : size l.self.world ≡ size l.fn.self.world;
  still : (k : ℕ) (m : Message) → slice_get l.fn.self.world.sent k ≡ Some m → slice_get l.self.world.sent k ≡ Some m;
  printed : and_then l.fn.self (give_each l.site 1 l.fn.self.world.sent l.fn.self.world)
      ≡ and_then l.self (give_each l.site (l.number + 1) (drop l.number l.fn.self.world.sent) l.self.world);
  within : l.number ≤ length l.fn.self.world.sent;
}
