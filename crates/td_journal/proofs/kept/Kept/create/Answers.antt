use Rattle.std.proofs.Common.{ℕ, List, ◌+◌, ◌++◌, ◌∷◌, [], true, false, refl, ◌∙◌, sym, ap, subst, inr, length}
use Rattle.td_io.specs.Count.{Rose}
use Rattle.td_disk.specs.Calls.{Puts}
use Rattle.td_disk.specs.Gated.{disk_of}
use Rattle.td_journal.specs.Journal.{head_bytes}
use Rattle.td_journal.specs.Seen.{journal_of}
use Rattle.td_journal.proofs.Finding.{journal_new, left_on, begun}
use Rattle.td_journal.proofs.Keeping.{err_part, ok_part, puts_on}
use Rattle.td_journal.proofs.kept.Kept.create.Goals as goal

pub returns-then-is_err-clause-disk : goal.returns-then-is_err-clause-disk
returns-then-is_err-clause-disk g c = λ failed.
    err_part c.begin.result (Rose (g.K.Disk.faults c.args.disk) (g.K.Disk.faults c.begin.new.disk))
    (sym c.is_err.ensures.value ∙ c.if-is_err.true) c.begin.ensures.failed

pub returns-clause-leaves : goal.returns-clause-leaves
returns-clause-leaves g c = λ file left.
    journal_new c.args.format c.of.result.check.format c.args.site c.args.n c.of.result.replica file
    (c.of.ensures.format ∙ c.in-Ok.ensures.format) (c.of.ensures.replica ∙ c.in-Ok.ensures.replica)
    (c.of.ensures.leaves file
    (left_on g.K.Disk c.begin.new.disk (disk_of (journal_of c.of.result)) file c.of.ensures.disk left))

pub returns-clause-any_moment : goal.returns-clause-any_moment
returns-clause-any_moment g c =
    begun g.K.Disk c.args.disk c.begin.new.disk (disk_of (journal_of c.of.result)) (length c.as_slice.result.now)
    (length (head_bytes c.args.format c.args.site c.args.n) + 1) c.of.ensures.disk
    (ap length c.as_slice.ensures ∙ c.in-Ok.ensures.long) c.begin.ensures.any_moment

pub returns-then-is_err-clause-any_moment_err : goal.returns-then-is_err-clause-any_moment_err
returns-then-is_err-clause-any_moment_err g c =
    inr (begun g.K.Disk c.args.disk c.begin.new.disk c.begin.new.disk (length c.as_slice.result.now)
    (length (head_bytes c.args.format c.args.site c.args.n) + 1) refl
    (ap length c.as_slice.ensures ∙ c.in-Ok.ensures.long) c.begin.ensures.any_moment)

pub returns-clause-done : goal.returns-clause-done
returns-clause-done g c =
    puts_on g.K.Disk c.args.disk c.begin.new.disk (disk_of (journal_of c.of.result)) c.as_slice.result.now
    (head_bytes c.args.format c.args.site c.args.n ++ 0 ∷ []) (c.as_slice.ensures ∙ c.in-Ok.ensures.head)
    c.of.ensures.disk
    (ok_part c.begin.result (Puts g.K.Disk c.args.disk 0 c.as_slice.result.now true c.begin.new.disk)
    (sym c.is_err.ensures.value ∙ c.if-is_err.false) c.begin.ensures.done)

pub returns-then-is_err-clause-not_done : goal.returns-then-is_err-clause-not_done
returns-then-is_err-clause-not_done g c = λ failed.
    subst (λ (l : List ℕ). Puts g.K.Disk c.args.disk 0 l false c.begin.new.disk)
    (c.as_slice.ensures ∙ c.in-Ok.ensures.head)
    (err_part c.begin.result (Puts g.K.Disk c.args.disk 0 c.as_slice.result.now false c.begin.new.disk)
    (sym c.is_err.ensures.value ∙ c.if-is_err.true) c.begin.ensures.not_done)
