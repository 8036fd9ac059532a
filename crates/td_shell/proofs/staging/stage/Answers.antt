use Rattle.std.proofs.Common.{sym, subst}
use Rattle.td_journal.specs.declared.fault.KeptFault.TheVariants as Fault
use Rattle.td_journal.specs.Seen.{replica_of}
use Rattle.td_replica.specs.Replica.{after_step}
use Rattle.td_shell.specs.Wanting.{IsWanting}
use Rattle.td_shell.proofs.Staged.{step_refused, step_staged, told}
use Rattle.td_shell.proofs.Wanting.{wanting_of}
use Rattle.td_shell.proofs.staging.stage.Goals as goal

pub returns-in-Ok-clause-staged : goal.returns-in-Ok-clause-staged
returns-in-Ok-clause-staged g c =
    let o = c.stage.ensures.others in
    step_staged c.args.kept.now c.stage.new.self c.args.input c.in-Ok.ensures.ok
    (record { format = o.1; site = c.stage.ensures.place.0; size = c.stage.ensures.place.1 }) o.0 o.4 o.2

pub returns-in-Err-clause-staged : goal.returns-in-Err-clause-staged
returns-in-Err-clause-staged g c =
    let o = c.stage.ensures.others in
    step_refused c.args.kept.now c.stage.new.self c.in-Err.ensures.err.0
    (record { format = o.1; site = c.stage.ensures.place.0; size = c.stage.ensures.place.1 }) o.0 o.4 o.2

pub returns-in-Err-clause-wanting : goal.returns-in-Err-clause-wanting
returns-in-Err-clause-wanting g c =
    let k = c.args.kept.now in
    subst (IsWanting c.stage.new.self (after_step c.args.input (replica_of k))) (sym c.of.ensures)
    (wanting_of k c.stage.new.self c.args.input c.in-Err.fault c.requires
    (λ e. c.in-Err.ensures.closed.0 (told c.in-Err.fault Fault.Closed e))
    (λ e. c.in-Err.ensures.not_disk (told c.in-Err.fault Fault.Disk e))
    (λ len e. c.in-Err.ensures.full len (told c.in-Err.fault (Fault.Full len) e)) c.stage.ensures.long
    c.in-Err.ensures.err.0 c.stage.ensures.others.1)
