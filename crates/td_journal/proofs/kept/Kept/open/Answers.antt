use Rattle.std.proofs.Common.{◌∙◌, ap}
use Rattle.td_disk.specs.Gated.{disk_of}
use Rattle.td_replica.specs.Replica.{ReplicaValue}
use Rattle.td_journal.specs.Journal.{inputs_of}
use Rattle.td_journal.specs.Seen.{journal_of}
use Rattle.td_journal.proofs.Finding.{left_on, restored, not_bad}
use Rattle.td_journal.proofs.Keeping.{syncs_on}
use Rattle.td_journal.proofs.kept.Kept.open.Goals as goal

pub returns-in-Ok-clause-leaves : goal.returns-in-Ok-clause-leaves
returns-in-Ok-clause-leaves g c = λ file left.
    c.of.ensures.leaves file
    (left_on g.K.Disk c.find.new.disk (disk_of (journal_of c.of.result)) file c.of.ensures.disk left)

pub returns-in-Ok-clause-restores : goal.returns-in-Ok-clause-restores
returns-in-Ok-clause-restores g c = λ f inputs can j.
    let found = c.in-Ok.found in
    let same = restored c.args.site c.args.n (g.K.Disk.reads c.args.disk) f inputs can j found.check.format
    (inputs_of found.replica.entries) c.in-Ok.ensures.found.can c.in-Ok.ensures.found.journal in (
      c.of.ensures.format ∙ same.0,
      ap (λ (r : ReplicaValue). inputs_of r.entries) c.of.ensures.replica ∙ same.1,
    )

pub returns-in-Err-clause-not_bad : goal.returns-in-Err-clause-not_bad
returns-in-Err-clause-not_bad g c = λ f inputs can j at is_bad.
    not_bad c.args.site c.args.n (g.K.Disk.reads c.args.disk) f inputs can j at (c.in-Err.ensures.bad at is_bad)

pub returns-in-Ok-clause-done : goal.returns-in-Ok-clause-done
returns-in-Ok-clause-done g c =
    syncs_on g.K.Disk c.args.disk c.find.new.disk (disk_of (journal_of c.of.result)) c.of.ensures.disk
    c.in-Ok.ensures.done
