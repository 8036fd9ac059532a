use Rattle.std.proofs.Common.{◌≡◌, ◌-◌, set, ap, ◌∙◌, subst}
use Rattle.std.proofs.lemmas.Result.{on_ok_weaker, on_err_weaker}
use Rattle.std.specs.Prelude.{IfOk}
use Rattle.td_replica.specs.Replica.{ReplicaValue, after_step}
use Rattle.td_world.specs.Sending.{IsDone}
use Rattle.td_world.specs.World.{replica_from}
use Rattle.td_world.proofs.Replicas.{at_site, set_itself}
use Rattle.td_world.proofs.sites.step_of.Goals as goal

pub returns-clause-done : goal.returns-clause-done
returns-clause-done g c =
    subst (λ (r : ReplicaValue). IfOk c.step_one.result (λ done. IsDone r c.args.input.now done))
    (at_site c.args.replicas.now.items c.args.site c.place.result c.index_mut.result.now c.place.ensures.place
    c.place.ensures.least c.requires c.index_mut.ensures.value) c.step_one.ensures.done

pub returns-clause-ok : goal.returns-clause-ok
returns-clause-ok g c =
    let same : c.index_mut.result.now ≡ replica_from c.args.replicas.now.items (c.args.site - 1) =
    at_site c.args.replicas.now.items c.args.site c.place.result c.index_mut.result.now c.place.ensures.place
    c.place.ensures.least c.requires c.index_mut.ensures.value in
    on_ok_weaker c.step_one.result
    (λ (e : c.step_one.new.replica ≡ after_step c.args.input.now c.index_mut.result.now) i.
    set c.args.replicas.now.items (c.place.ensures.place i)
    ((e ∙ ap (λ (r : ReplicaValue). after_step c.args.input.now r) same) i)) c.step_one.ensures.ok

pub returns-clause-err : goal.returns-clause-err
returns-clause-err g c =
    on_err_weaker c.step_one.result
    (λ (e : c.step_one.new.replica ≡ c.index_mut.result.now).
    ap (λ (r : ReplicaValue). set c.args.replicas.now.items c.place.result r) e
    ∙ set_itself c.args.replicas.now.items c.place.result c.index_mut.result.now c.index_mut.ensures.value)
    c.step_one.ensures.err
