use Rattle.std.proofs.Common.{◌≡◌, map}
use Rattle.std.specs.List.{AllByRecursion}
use Rattle.td_world.specs.World.{new_replicas}
use Rattle.td_kept.specs.Seats.{SeatValue, IsThere}
use Rattle.td_kept.proofs.world.KeptWorld.new.Given as goal

abbrev pub invariant-loop-place : goal.invariant-loop-place
invariant-loop-place g l =
    (map (λ (s : SeatValue). s.replica) l.seats.items ≡ new_replicas l.n l.place 1)
    × AllByRecursion IsThere l.seats.items
