use Rattle.std.proofs.lemmas.Result.{err_from_is_err_and}
use Rattle.td_journal.specs.Seen.{replica_of}
use Rattle.td_op.specs.declared.input.Input.TheVariants.{Take}
use Rattle.td_replica.specs.Replica.{after_step}
use Rattle.td_shell.specs.Taking.{after_take}
use Rattle.td_shell.proofs.Wanting.{took_on, wanting_on}
use Rattle.td_shell.proofs.taking.take.Goals as goal

pub returns-in_err-reply-clause-wanting : goal.returns-in_err-reply-clause-wanting
returns-in_err-reply-clause-wanting g c =
    let r = replica_of c.args.kept.now in
    let p = err_from_is_err_and c.from_residual.result c.from_residual.ensures.1 in
    rw (p.1, p.2) (wanting_on c.stage.new.kept (after_step (Take c.args.message) r)
    (after_take c.args.message r).replica c.in_err-reply.field-0.0
    (took_on c.args.message r) c.in_err-reply.ensures.wanting)
