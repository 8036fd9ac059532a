use Rattle.std.proofs.Common.{◌≤◌, ◌-◌, ◌∙◌, ℕ, length, ap, sym, arith}
use Rattle.std.proofs.lemmas.Option.{slice_get_within}
use Rattle.td_base.proofs.Elements.{some_of}
use Rattle.td_base.specs.Lists.{kth}
use Rattle.td_replica.specs.Replica.{ReplicaValue}
use Rattle.td_world.specs.Parts.{posted}
use Rattle.td_world.proofs.Kept.{kth_get, past_sites}
use Rattle.td_world.proofs.Replicas.{at_site}
use Rattle.td_world.proofs.world.message_of.Goals as goal

pub offset_bounds-replicas-place : goal.offset_bounds-replicas-place
offset_bounds-replicas-place g c =
    let post = c.args.post.now in
    let s = some_of (posted c.args.replicas.now post) c.requires in
    let below = past_sites c.args.replicas.now (post.site - 1) post.number s.0 s.1 in
    omega (arith, c.place.ensures.place)

pub bounds-replicas-place : goal.bounds-replicas-place
bounds-replicas-place g c =
    let post = c.args.post.now in
    let s = some_of (posted c.args.replicas.now post) c.requires in
    let below = past_sites c.args.replicas.now (post.site - 1) post.number s.0 s.1 in
    omega (arith, c.place.ensures.place)

pub message-requires-clause-within : goal.message-requires-clause-within
message-requires-clause-within g c =
    let post = c.args.post.now in
    let r = c.index-replicas-place.result in
    let s = some_of (posted c.args.replicas.now post) c.requires in
    let below = past_sites c.args.replicas.now (post.site - 1) post.number s.0 s.1 in
    let within : post.site ≤ length c.args.replicas.now = omega (arith, c.place.ensures.least) in
    let is = at_site c.args.replicas.now post.site c.place.result r c.place.ensures.place c.place.ensures.least within
    c.index-replicas-place.is in
    let there = kth_get post.number r.machine.sent s.0
    (ap (λ (q : ReplicaValue). kth post.number q.machine.sent) is ∙ s.1) in
    let some = there.0 in
    let few = slice_get_within r.machine.sent (post.number - 1) s.0 there.1 in
    omega (arith, c.from.ensures)

pub returns-clause-message : goal.returns-clause-message
returns-clause-message g c =
    let post = c.args.post.now in
    let r = c.index-replicas-place.result in
    let s = some_of (posted c.args.replicas.now post) c.requires in
    let below = past_sites c.args.replicas.now (post.site - 1) post.number s.0 s.1 in
    let within : post.site ≤ length c.args.replicas.now = omega (arith, c.place.ensures.least) in
    let is = at_site c.args.replicas.now post.site c.place.result r c.place.ensures.place c.place.ensures.least within
    c.index-replicas-place.is in
    sym (ap (λ (q : ReplicaValue). kth post.number q.machine.sent) is)
    ∙ sym (ap (λ (k : ℕ). kth k r.machine.sent) c.from.ensures)
    ∙ c.message.ensures
