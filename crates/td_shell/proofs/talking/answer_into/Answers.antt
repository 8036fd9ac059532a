use Rattle.std.proofs.lemmas.Result.{err_from_is_err_and}
use Rattle.std.proofs.Common.{subst, List, ℕ}
use Rattle.std.specs.Io.KnownBytes.{Appends}
use Rattle.td_io.specs.Whole.{AppendsPart}
use Rattle.td_journal.specs.Seen.{replica_of}
use Rattle.td_shell.specs.Answers.{answer}
use Rattle.td_shell.proofs.Putting.{answered_partly, answered_whole, not_answered}
use Rattle.td_shell.proofs.talking.answer_into.Goals as goal

pub returns-in_err-text-clause-answered : goal.returns-in_err-text-clause-answered
returns-in_err-text-clause-answered g c =
    let k = c.args.kept.now in
    let p = err_from_is_err_and c.from_residual.result c.from_residual.ensures.1 in
    rw (p.1, p.2) (not_answered g.W.Sink k c.answer.new.kept c.args.sink.now
    (answer c.args.number c.args.line.now (replica_of k)) c.in_err-text.field-0.0 c.in_err-text.ensures)

pub returns-in-Ok-clause-answered : goal.returns-in-Ok-clause-answered
returns-in-Ok-clause-answered g c =
    let k = c.args.kept.now in
    answered_whole g.W.Sink k c.answer.new.kept c.args.sink.now c.put_all.new.sink
    (answer c.args.number c.args.line.now (replica_of k)) c.in_ok-text.text _ c.in_ok-text.ensures
    (subst (λ (xs : List ℕ). Appends (g.W.Sink.held c.args.sink.now) (g.W.Sink.held c.put_all.new.sink) xs)
    c.as_slice.ensures c.in-Ok.ensures.ok)

pub returns-clause-answered : goal.returns-clause-answered
returns-clause-answered g c =
    let k = c.args.kept.now in
    answered_partly g.W.Sink k c.answer.new.kept c.args.sink.now c.put_all.new.sink
    (answer c.args.number c.args.line.now (replica_of k)) c.in_ok-text.text c.in_ok-text.ensures
    (subst (λ (xs : List ℕ). AppendsPart (g.W.Sink.held c.args.sink.now) (g.W.Sink.held c.put_all.new.sink) xs)
    c.as_slice.ensures c.in-Err.ensures.part) c.in-Err.ensures.failed
