use Rattle.std.proofs.Common.{◌≡◌, length, ap, ◌∙◌, vec_len, arith}
use Rattle.td_world.specs.World.{WorldValue}
use Rattle.td_world.proofs.Kept.{as_many_posts}
use Rattle.td_world.proofs.world.World.sent.Goals as goal

pub returns-clause-sent : goal.returns-clause-sent
returns-clause-sent g c =
    let long : vec_len c.self.inside.posts ≡ length c.self.inside.posts.items =
    omega (arith, c.self.inside.posts.ok.0) in
    c.len.ensures ∙ long
    ∙ as_many_posts c.self.inside.replicas.items c.self.inside.posts.items c.self.inside.passed.items c.self.invariant
    ∙ ap (λ (w : WorldValue). length w.sent) c.self.view_is
