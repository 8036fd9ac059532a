use Rattle.std.proofs.Common.{refl, sym, ◌∙◌, arith}
use Rattle.td_kept.proofs.Leaving.{failed_leaves}
use Rattle.td_kept.proofs.reopening.failed_disk.Goals as goal

pub returns : goal.returns
returns g c = λ choice.
    failed_leaves c.args.kept c.fail_next.new.self c.commit.new.self (record {
      reads = λ x. refl;
      leaves = λ x file h. h;
      sound = λ x. refl;
      writes = λ old at bytes ok new h. h;
      syncs = λ old ok new h. h;
    }) c.args.k c.commit.result
    c.into_disk-disk.result c.requires.pending c.requires.some c.requires.call c.fail_next.ensures.disk
    c.fail_next.ensures.replica c.fail_next.ensures.staged c.fail_next.ensures.counted.0
    c.fail_next.ensures.closed c.commit.ensures.done c.commit.ensures.not_done c.commit.ensures.only
    c.commit.ensures.closed c.into_disk-disk.ensures (omega arith) choice
