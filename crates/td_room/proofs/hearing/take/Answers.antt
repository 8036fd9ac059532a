use Rattle.std.proofs.Common.{◌≡◌, ◌∙◌, ap, subst}
use Rattle.td_op.specs.declared.input.Input.{Input}
use Rattle.td_op.specs.declared.input.Input.TheVariants.{Take}
use Rattle.td_replica.specs.Replica.{ReplicaValue, IsReplica, after_step}
use Rattle.td_site.specs.Sites.{SiteValue}
use Rattle.td_room.proofs.Heards.{heard_take}
use Rattle.td_room.proofs.hearing.take.Goals as goal

pub returns-clause-heard : goal.returns-clause-heard
returns-clause-heard g c =
    let s = c.args.site.now in
    let t = c.step.new.self in
    let w = c.requires.waits in
    let i : IsReplica s.replica = subst (λ (r : ReplicaValue). IsReplica r) c.replica.ensures
    c.entries.ensures.replica in
    let replica : t.replica ≡ after_step (Take w.0) s.replica =
    ap (λ (x : SiteValue). x.replica) c.in_ok-step.ensures.ok ∙ ap (λ (x : Input). after_step x s.replica) w.1 in
    heard_take s t c.args.peer.now c.done.new.self w.0 i c.step.ensures.later replica c.done.ensures c.requires.own
    w.2 w.3 w.4
