use Rattle.std.proofs.Common.{◌≡◌, ◌<◌, ◌∙◌, List, length, refl, ap, sym, subst, vec_len, arith}
use Rattle.std.specs.Prelude.{IsSome}
use Rattle.std.specs.List.{filter_map, slice_get}
use Rattle.td_replica.specs.Replica.{ReplicaValue}
use Rattle.td_world.specs.Parts.{posted}
use Rattle.td_world.specs.World.{WorldValue}
use Rattle.td_world.proofs.Kept.{as_many_posts, get_found, some_get}
use Rattle.td_world.proofs.world.World.at.Goals as goal

pub index-requires : goal.index-requires
index-requires g c =
    let long : vec_len c.self.inside.posts ≡ length c.self.inside.posts.items =
    omega (arith, c.self.inside.posts.ok.0) in
    let many = as_many_posts c.self.inside.replicas.items c.self.inside.posts.items c.self.inside.passed.items
    c.self.invariant in
    let same = ap (λ (w : WorldValue). length w.sent) c.self.view_is in
    omega (arith, c.requires)

pub message_of-requires : goal.message_of-requires
message_of-requires g c =
    let replicas = c.self.inside.replicas.items in
    let posts = c.self.inside.posts.items in
    let many = as_many_posts replicas posts c.self.inside.passed.items c.self.invariant in
    let same = ap (λ (w : WorldValue). length w.sent) c.self.view_is in
    let below : c.args.k < length posts = omega (arith, c.requires) in
    let s = some_get (posted replicas) posts (filter_map (posted replicas) posts) c.args.k c.index.result.now
    c.self.invariant.standing
    (get_found posts c.args.k c.index.result.now below c.index.ensures) in
    subst IsSome (sym (ap (λ (l : List ReplicaValue). posted l c.index.result.now) c.deref.ensures.value ∙ s.1)) refl

pub returns : goal.returns
returns g c =
    let replicas = c.self.inside.replicas.items in
    let posts = c.self.inside.posts.items in
    let many = as_many_posts replicas posts c.self.inside.passed.items c.self.invariant in
    let same = ap (λ (w : WorldValue). length w.sent) c.self.view_is in
    let below : c.args.k < length posts = omega (arith, c.requires) in
    let s = some_get (posted replicas) posts (filter_map (posted replicas) posts) c.args.k c.index.result.now
    c.self.invariant.standing
    (get_found posts c.args.k c.index.result.now below c.index.ensures) in
    sym (ap (λ (w : WorldValue). slice_get w.sent c.args.k) c.self.view_is) ∙ s.2 ∙ sym s.1
    ∙ sym (ap (λ (l : List ReplicaValue). posted l c.index.result.now) c.deref.ensures.value)
    ∙ c.message_of.ensures.message
