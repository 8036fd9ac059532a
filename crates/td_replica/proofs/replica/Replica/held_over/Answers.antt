use Rattle.td_replica.specs.LastChange.{replica_of}
use Rattle.td_replica.proofs.Kept.{held_apart}
use Rattle.td_replica.proofs.Legal.{built}
use Rattle.td_replica.proofs.replica.Replica.held_over.Goals as goal

pub held_over-requires : goal.held_over-requires
held_over-requires g c =
    held_apart c.self.inside.state.machine (built (replica_of c.self.inside.state c.self.inside.last) c.self.invariant)
