use Rattle.td_world.proofs.Replicas.{at_site}
use Rattle.td_world.proofs.sites.replica_of.Goals as goal

pub returns-clause-replica : goal.returns-clause-replica
returns-clause-replica g c =
    at_site c.args.replicas.now c.args.site c.place.result c.index-replicas-place.result c.place.ensures.place
    c.place.ensures.least c.requires c.index-replicas-place.is
