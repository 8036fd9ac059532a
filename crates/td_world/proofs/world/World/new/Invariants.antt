use Rattle.std.proofs.Common.{◌≡◌, replicate}
use Rattle.td_world.specs.World.{new_replicas}
use Rattle.td_world.proofs.world.World.new.Given as goal

abbrev pub invariant-loop-place : goal.invariant-loop-place
invariant-loop-place g l =
    (l.replicas.items ≡ new_replicas l.n l.place 1) × (l.passed.items ≡ replicate l.place 0)
