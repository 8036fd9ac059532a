-- The parts of the trace of a world.
use Rattle.std.specs.Prelude.{ℕ, List, map}
use Rattle.td_doc.specs.Document.{text_of}
use Rattle.td_replica.specs.Replica.{ReplicaValue}

-- the texts of the sites
abbrev pub texts_of : List ReplicaValue → List (List ℕ)
texts_of replicas = map (λ (r : ReplicaValue). text_of r.machine.doc) replicas
