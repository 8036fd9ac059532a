use Rattle.std.proofs.Common.{rules, ◌≡◌, Some, refl, sym, ap, ◌∙◌, true}
use Rattle.td_journal.specs.declared.fault.KeptFault.TheVariants.{Full}
use Rattle.td_journal.specs.Seen.{replica_of}
use Rattle.td_replica.specs.Replica.{ReplicaValue}
use Rattle.td_machine.specs.Step.{step}
use Rattle.td_op.specs.declared.reply.Reply.{Reply}
use Rattle.td_kept.proofs.Places.{full_in, replica_in}
use Rattle.td_kept.proofs.Staging.{err_on}
use Rattle.td_kept.proofs.seat.Seat.step.Goals as goal

pub returns-in-Ok-clause-reply : goal.returns-in-Ok-clause-reply
returns-in-Ok-clause-reply g c =
    let there : c.self.inside.kept ≡ Some c.unwrap-kept.result = search rules in
    c.in-Ok.ensures.reply ∙ ap (λ (r : ReplicaValue). (step r.machine c.args.input).reply)
    (replica_in c.self.inside.kept c.unwrap-kept.result c.args.self.now c.self.view_is there)

pub returns-in-Err-Full-clause-full : goal.returns-in-Err-Full-clause-full
returns-in-Err-Full-clause-full g c = λ len is_full.
    let k = c.unwrap-kept.result in
    let there : c.self.inside.kept ≡ Some c.unwrap-kept.result = search rules in
    let is = replica_in c.self.inside.kept k c.args.self.now c.self.view_is there in
    let told = c.in-Err-Full.ensures.full len
    (err_on Reply c.in-Err-Full.field-0 (Full c.in-Err-Full.len) (Full len) c.in-Err-Full.field-0-is is_full) in
    let full = full_in k c.step_one.new.kept c.args.self.now c.args.input len is c.requires told.0 told.1 told.2 in
    (full.0, full.1, full.2, told.4)
