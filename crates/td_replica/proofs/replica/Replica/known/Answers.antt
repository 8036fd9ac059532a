use Rattle.td_replica.specs.LastChange.{replica_of}
use Rattle.td_replica.proofs.Legal.{built}
use Rattle.td_replica.proofs.replica.Replica.known.Goals as goal

pub known-requires : goal.known-requires
known-requires g c =
    built (replica_of c.self.inside.state c.self.inside.last) c.self.invariant
