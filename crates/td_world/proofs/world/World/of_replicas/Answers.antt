use Rattle.std.proofs.Common.{◌<◌, List, length, map, sym, ◌∙◌, subst, arith}
use Rattle.td_machine.specs.History.{IsConsistent}
use Rattle.td_replica.specs.Replica.{ReplicaValue}
use Rattle.td_world.specs.Parts.{world_value}
use Rattle.td_world.specs.World.{AreSites}
use Rattle.td_world.proofs.Beginnings.{IsOpen, opening_more, opening_done}
use Rattle.td_world.proofs.Promised.{promised}
use Rattle.td_world.proofs.Replicas.{or_from}
use Rattle.td_world.proofs.world.World.of_replicas.Given.{Over}
use Rattle.td_world.proofs.world.World.of_replicas.Goals as goal

pub loop-replica-preserved : goal.loop-replica-preserved
loop-replica-preserved g c =
    let replicas : List ReplicaValue = c.deref-replica-items.result.now in
    let less : c.loop-replica.replica-index < length c.deref-replica-items.result.now =
    omega (arith, c.loop-replica-test.true) in
    opening_more c.deref-replica-items.result.now c.loop-replica.replica-index c.loop-replica.posts.items
    c.post_all.new.posts.items c.loop-replica.passed.items c.push.new.self.items
    (subst (λ (l : List ReplicaValue). AreSites l) (sym c.deref-replica-items.ensures.value) c.requires.sites) less
    c.loop-replica.invariant c.replica-item.result
    (c.replica-item.is ∙ or_from c.deref-replica-items.result.now c.loop-replica.replica-index c.replica-item.result
    less)
    c.entries.ensures.replica c.site.result c.sent.result c.site.ensures c.sent.ensures c.in_ok-post_all.ensures.ok
    c.in_ok-push.ensures.items

done : (g : Over) (c : goal.After-loop-replica g)
    → IsOpen c.args.replicas.items c.loop-replica.posts.items c.loop-replica.passed.items
done g c =
    subst (λ (l : List ReplicaValue). IsOpen l c.loop-replica.posts.items c.loop-replica.passed.items)
    c.deref-replica-items.ensures.value
    (opening_done c.deref-replica-items.result.now c.loop-replica.replica-index c.loop-replica.posts.items
    c.loop-replica.passed.items
    (subst (λ (l : List ReplicaValue). AreSites l) (sym c.deref-replica-items.ensures.value) c.requires.sites)
    (subst (λ (l : List ReplicaValue). IsConsistent (map (λ (r : ReplicaValue). r.entries) l))
    (sym c.deref-replica-items.ensures.value) c.requires.consistent)
    c.loop-replica.invariant
    (omega (arith, c.loop-replica-test.false, c.loop-replica.auto.replica-index-end)))

pub invariant_of-result : goal.invariant_of-result
invariant_of-result g c = (done g c).parts

pub returns-clause-sites : goal.returns-clause-sites
returns-clause-sites g c = (done g c).value

pub returns-clause-world : goal.returns-clause-world
returns-clause-world g c = (done g c).parts.world

pub returns-clause-promises : goal.returns-clause-promises
returns-clause-promises g c =
    promised (world_value c.args.replicas.items c.loop-replica.posts.items) (done g c).parts.world
