use Rattle.std.proofs.Common.{◌++◌, ◌∷◌, [], refl}
use Rattle.td_journal.specs.Journal.{head_bytes}
use Rattle.td_journal.specs.declared.format.Format.TheVariants.{Plain}
use Rattle.td_kept.proofs.Wholes.{begun_whole}
use Rattle.td_kept.proofs.site.begun.Goals as goal

pub returns-in-Ok-clause-whole : goal.returns-in-Ok-clause-whole
returns-in-Ok-clause-whole g c =
    begun_whole c.in-Ok.kept (record {
      reads = λ x. refl;
      leaves = λ x file h. h;
      sound = λ x. refl;
      writes = λ old at bytes ok new h. h;
      syncs = λ old ok new h. h;
    }) c.in_ok-disk.disk c.args.site c.args.n
    (head_bytes Plain c.args.site c.args.n ++ 0 ∷ []) c.in_ok-disk.ensures.is c.in-Ok.ensures.done
    c.in-Ok.ensures.replica c.in-Ok.ensures.format c.in-Ok.ensures.open c.in-Ok.ensures.acknowledged
    c.in-Ok.ensures.staged
