use Rattle.std.proofs.Common.{◌∙◌}
use Rattle.std.proofs.lemmas.Result.{err_from_is_err_and}
use Rattle.td_disk.specs.Gated.{disk_of}
use Rattle.td_journal.specs.Seen.{journal_of, replica_of}
use Rattle.td_shell.specs.Answers.{replied, with_sent}
use Rattle.td_shell.proofs.Keeping.{done_behind, not_done}
use Rattle.td_shell.proofs.answering.perform.Goals as goal

pub returns-in_err-text : goal.returns-in_err-text
returns-in_err-text g c =
    let k = c.args.kept.now in
    let p = err_from_is_err_and c.from_residual.result c.from_residual.ensures.1 in
    rw (p.1, p.2) (not_done k c.tell.new.kept (with_sent (replica_of k) (replied c.args.command.now (replica_of k)))
    c.in_err-text.field-0.0 c.requires.kept (λ f left. g.met.K.Disk.only_now (disk_of (journal_of k)) f left)
    c.in_err-text.ensures.wanting c.tell.ensures.staged)

pub returns : goal.returns
returns g c =
    let k = c.args.kept.now in
    done_behind k c.tell.new.kept c.keep.new.kept
    (with_sent (replica_of k) (replied c.args.command.now (replica_of k))) c.in_ok-text.text c.keep.result
    c.requires.kept c.tell.ensures.staged c.in_ok-text.ensures.text c.in_ok-text.ensures.ok c.keep.ensures.text
    c.keep.ensures.same c.keep.ensures.kept c.keep.ensures.place c.keep.ensures.failed c.keep.ensures.counts
    c.keep.ensures.any_moment

pub keep-requires : goal.keep-requires
keep-requires g c = c.tell.ensures.staged.closed ∙ c.requires.kept.open_still

pub tell-requires-clause-open : goal.tell-requires-clause-open
tell-requires-clause-open g c = c.requires.kept.open_still
