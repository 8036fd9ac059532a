use Rattle.std.proofs.Common.{◌∙◌, ap, sym}
use Rattle.td_world.specs.World.{replica}
use Rattle.td_kept.specs.KeptWorld.{KeptWorldValue}
use Rattle.td_kept.proofs.Calling.{found}
use Rattle.td_kept.proofs.world.KeptWorld.kept.Goals as goal

pub returns-clause-replica : goal.returns-clause-replica
returns-clause-replica g c =
    c.kept.ensures.replica
    ∙ sym (found c.self.inside.seats.items c.self.inside.sent.items c.self.inside.spent c.args.site c.place.result
    c.index.result.now c.self.invariant (ap (λ (v : KeptWorldValue). v.spent) c.self.view_is ∙ c.requires.whole)
    c.place.ensures.place c.place.ensures.least c.args.self.now c.self.view_is c.requires.within c.index.ensures)
    ∙ ap (λ (v : KeptWorldValue). replica v.world c.args.site) c.self.view_is
