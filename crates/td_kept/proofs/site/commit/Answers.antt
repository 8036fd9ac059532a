use Rattle.std.proofs.Common.{refl, sym, ap, ◌∙◌, subst}
use Rattle.td_replica.specs.Replica.{ReplicaValue, IsReplica}
use Rattle.td_kept.proofs.Staging.{always}
use Rattle.td_kept.proofs.Wholes.{committed_whole}
use Rattle.td_kept.proofs.site.commit.Goals as goal

pub returns-in-Ok-clause-whole : goal.returns-in-Ok-clause-whole
returns-in-Ok-clause-whole g c =
    always c.release.result _
    (committed_whole c.commit.new.self (record {
      reads = λ x. refl;
      leaves = λ x file h. h;
      sound = λ x. refl;
      writes = λ old at bytes ok new h. h;
      syncs = λ old ok new h. h;
    }) c.args.kept.now c.requires.pending c.in-Ok.ensures.done
    c.in-Ok.ensures.staged c.in-Ok.ensures.acknowledged c.in-Ok.ensures.open c.commit.ensures.same.1
    (subst (λ (r : ReplicaValue). IsReplica r) c.replica.ensures c.release.ensures.replica))
