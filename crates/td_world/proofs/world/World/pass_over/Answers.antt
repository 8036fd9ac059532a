use Rattle.std.proofs.Common.{◌≡◌, ◌≤◌, length, get_or, sym, ap, ◌∙◌, subst, arith}
use Rattle.td_world.specs.World.{WorldValue, size}
use Rattle.td_world.proofs.Kept.{as_many_posts}
use Rattle.td_world.proofs.Passed.{parts_passed}
use Rattle.td_world.proofs.world.World.pass_over.Goals as goal

pub overflow_add-k : goal.overflow_add-k
overflow_add-k g c =
    let long : length c.self.inside.posts.items ≡ length c.args.self.now.sent =
    as_many_posts c.self.inside.replicas.items c.self.inside.posts.items c.self.inside.passed.items c.self.invariant
    ∙ ap (λ (w : WorldValue). length w.sent) c.self.view_is in
    omega (arith, c.requires.sent, long, c.self.inside.posts.ok.0, c.self.inside.posts.ok.1, c.self.inside.posts.small)

pub invariant_of-self : goal.invariant_of-self
invariant_of-self g c =
    parts_passed c.self.inside.replicas.items c.self.inside.posts.items c.self.inside.passed.items c.self.invariant
    c.args.self.now c.self.view_is c.args.to c.place-place.result c.args.k c.place-place.ensures.place
    c.place-place.ensures.least (subst (λ (w : WorldValue). c.args.to ≤ size w) (sym c.self.view_is) c.requires.within)
    (sym c.if-index-k.true ∙ c.index.ensures
    ∙ ap (λ d. get_or c.self.inside.passed.items c.place-place.result d) c.if-index-k.true)
    c.requires.sent c.requires.passed
