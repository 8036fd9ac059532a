use Rattle.td_replica.proofs.Kept.{kept_same, released_kept}
use Rattle.td_replica.proofs.state.end_hold.Goals as goal

pub returns-in-Some-clause-kept : goal.returns-in-Some-clause-kept
returns-in-Some-clause-kept c = λ rows k.
    kept_same rows c.release.new.self c.committed.new.self c.committed.ensures.holds c.committed.ensures.by_place
    (released_kept rows c.in-Commit.proposal c.args.holds.now c.release.new.self c.release.ensures.holds
    c.release.ensures.by_place k)

pub returns-in_default-clause-kept : goal.returns-in_default-clause-kept
returns-in_default-clause-kept c = λ rows k.
    released_kept rows c.in-Commit.proposal c.args.holds.now c.release.new.self c.release.ensures.holds
    c.release.ensures.by_place k

pub returns-in-Abort-clause-kept : goal.returns-in-Abort-clause-kept
returns-in-Abort-clause-kept c = λ rows k.
    released_kept rows c.in-Abort.proposal c.args.holds.now c.release-in-Abort.new.self c.release-in-Abort.ensures.holds
    c.release-in-Abort.ensures.by_place k
