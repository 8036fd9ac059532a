use Rattle.std.proofs.Common.{◌≤◌, sym, subst}
use Rattle.td_world.specs.World.{WorldValue, size}
use Rattle.td_world.proofs.Passed.{passed_at}
use Rattle.td_world.proofs.world.World.passed_by.Goals as goal

pub returns-clause-passed : goal.returns-clause-passed
returns-clause-passed g c =
    passed_at c.self.inside.replicas.items c.self.inside.posts.items c.self.inside.passed.items c.self.invariant
    c.args.self.now c.self.view_is c.args.site c.place.result c.index.result.now c.place.ensures.place
    c.place.ensures.least
    (subst (λ (w : WorldValue). c.args.site ≤ size w) (sym c.self.view_is) c.requires) c.index.ensures
