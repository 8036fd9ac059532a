use Rattle.td_replica.proofs.Verdicts.{site_within}
use Rattle.td_replica.proofs.state.State.next.Goals as goal

pub refuse-requires : goal.refuse-requires
refuse-requires g c = site_within c.args.self.now.machine c.requires.built
