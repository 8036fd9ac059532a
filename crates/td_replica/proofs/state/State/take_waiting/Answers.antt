use Rattle.std.proofs.Common.{◌∙◌, sym}
use Rattle.td_replica.proofs.Verdicts.{site_within}
use Rattle.td_replica.proofs.Waiters.{least_fit}
use Rattle.td_replica.proofs.state.State.take_waiting.Goals as goal

pub refuse-requires : goal.refuse-requires
refuse-requires g c = site_within c.args.self.now.machine c.requires.built

pub absorb-requires-clause-fit : goal.absorb-requires-clause-fit
absorb-requires-clause-fit g c =
    least_fit c.args.self.now.machine c.requires.built c.args.next.now.op c.requires.least
    (sym c.misfit.ensures ∙ c.in-None.is)
