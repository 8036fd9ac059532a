use Rattle.std.proofs.Common.{refl, ap, ◌∙◌, subst}
use Rattle.td_disk.specs.Image.{image}
use Rattle.td_disk.specs.MemDisk.{MemDiskValue}
use Rattle.td_disk.specs.Record.{device_of}
use Rattle.td_replica.specs.Replica.{ReplicaValue, IsReplica}
use Rattle.td_journal.specs.Seen.{replica_of}
use Rattle.td_journal.specs.declared.format.Format.TheVariants.{Plain}
use Rattle.td_kept.specs.KeptWorld.{is_done}
use Rattle.td_kept.specs.Sites.{left_inputs}
use Rattle.td_kept.proofs.Restored.{can_left}
use Rattle.td_kept.proofs.Wholes.{journal_again, opened_whole}
use Rattle.td_kept.proofs.reopening.reopened.Goals as goal

pub returns-in-Ok-clause-inputs : goal.returns-in-Ok-clause-inputs
returns-in-Ok-clause-inputs g c =
    let k = c.args.kept in
    let left = left_inputs c.args.k c.args.choice c.args.kept in
    let legal = subst (λ (r : ReplicaValue). IsReplica r) c.replica.ensures c.entries.ensures.replica in
    let can = can_left (replica_of k) k.acknowledged (is_done c.args.k c.args.choice) legal k.writable in
    let journal = journal_again k.check.format (replica_of k).machine.site (replica_of k).machine.size
    c.site-site.result c.size-n.result left (image c.args.choice (device_of c.in_ok-disk.disk.past))
    (device_of c.in_ok-crash.field-0.past).reads c.requires.pending.goes_on.format
    (c.site-site.ensures ∙ ap (λ (r : ReplicaValue). r.machine.site) c.replica-2.ensures)
    (c.size-n.ensures ∙ ap (λ (r : ReplicaValue). r.machine.size) c.replica-3.ensures)
    (ap (λ (d : MemDiskValue). (device_of d.past).reads) c.in_ok-crash.ensures.image)
    (c.in_ok-disk.ensures c.args.choice c.crash.ensures.left) in
    (c.in-Ok.ensures.restores Plain left can journal).1

pub returns-in-Ok-clause-whole : goal.returns-in-Ok-clause-whole
returns-in-Ok-clause-whole g c =
    let k = c.args.kept in
    let left = left_inputs c.args.k c.args.choice c.args.kept in
    let legal = subst (λ (r : ReplicaValue). IsReplica r) c.replica.ensures c.entries.ensures.replica in
    let can = can_left (replica_of k) k.acknowledged (is_done c.args.k c.args.choice) legal k.writable in
    let journal = journal_again k.check.format (replica_of k).machine.site (replica_of k).machine.size
    c.site-site.result c.size-n.result left (image c.args.choice (device_of c.in_ok-disk.disk.past))
    (device_of c.in_ok-crash.field-0.past).reads c.requires.pending.goes_on.format
    (c.site-site.ensures ∙ ap (λ (r : ReplicaValue). r.machine.site) c.replica-2.ensures)
    (c.size-n.ensures ∙ ap (λ (r : ReplicaValue). r.machine.size) c.replica-3.ensures)
    (ap (λ (d : MemDiskValue). (device_of d.past).reads) c.in_ok-crash.ensures.image)
    (c.in_ok-disk.ensures c.args.choice c.crash.ensures.left) in
    opened_whole c.in-Ok.new (record {
      reads = λ x. refl;
      leaves = λ x file h. h;
      sound = λ x. refl;
      writes = λ old at bytes ok new h. h;
      syncs = λ old ok new h. h;
    }) c.in_ok-crash.field-0
    (image c.args.choice (device_of c.in_ok-disk.disk.past)) c.in_ok-crash.ensures.image c.in-Ok.ensures.done
    (c.in-Ok.ensures.restores Plain left can journal).0
    c.in-Ok.ensures.open c.in-Ok.ensures.acknowledged c.in-Ok.ensures.staged
    (subst (λ (r : ReplicaValue). IsReplica r) c.replica-in-Ok.ensures c.entries-in-Ok.ensures.replica)
