use Rattle.td_world.proofs.Beginnings.{IsOpening}
use Rattle.td_world.proofs.world.World.of_replicas.Given as goal

abbrev pub invariant-loop-replica : goal.invariant-loop-replica
invariant-loop-replica g l = IsOpening l.replica-items l.replica-index l.posts.items l.passed.items
