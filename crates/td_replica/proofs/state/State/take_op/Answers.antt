use Rattle.std.proofs.Common.{◌∙◌, sym, subst}
use Rattle.std.specs.Prelude.{IfOk}
use Rattle.td_machine.specs.Taking.{Stepped}
use Rattle.td_replica.specs.Steps.{IsStep}
use Rattle.td_replica.proofs.Verdicts.{site_within, refuse_step, delay_step, take_step}
use Rattle.td_replica.proofs.state.State.take_op.Goals as goal

pub refuse_op-requires : goal.refuse_op-requires
refuse_op-requires g c = site_within c.args.self.now.machine c.requires.built

pub returns-in-Refuse-clause-ok : goal.returns-in-Refuse-clause-ok
returns-in-Refuse-clause-ok g c =
    subst (λ (s : Stepped). IfOk c.refuse_op.result (λ done. IsStep s c.args.self.now c.refuse_op.new.self done))
    (sym (refuse_step c.args.op.now c.args.self.now.machine c.in-Refuse.reply
    (sym c.judge.ensures ∙ c.in-Refuse.is)))
    c.refuse_op.ensures.ok

pub returns-in-Delay-clause-ok : goal.returns-in-Delay-clause-ok
returns-in-Delay-clause-ok g c =
    subst (λ (s : Stepped). IfOk c.delay.result (λ done. IsStep s c.args.self.now c.delay.new.self done))
    (sym (delay_step c.args.op.now c.args.self.now.machine (sym c.judge.ensures ∙ c.in-Delay.is)))
    c.delay.ensures.ok

pub returns-in-Take-clause-ok : goal.returns-in-Take-clause-ok
returns-in-Take-clause-ok g c =
    subst (λ (s : Stepped). IfOk c.absorb.result (λ done. IsStep s c.args.self.now c.absorb.new.self done))
    (sym (take_step c.args.op.now c.args.self.now.machine (sym c.judge.ensures ∙ c.in-Take.is)))
    c.absorb.ensures.ok
