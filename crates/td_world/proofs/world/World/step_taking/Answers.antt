use Rattle.std.proofs.Common.{◌≡◌, ◌∙◌, true, sym, subst}
use Rattle.std.specs.Prelude.{IfOk, OnOk}
use Rattle.td_base.specs.Lists.{In}
use Rattle.td_op.specs.declared.input.Input.{Input}
use Rattle.td_op.specs.declared.input.Input.TheVariants.{Take}
use Rattle.td_op.specs.declared.message.Message.{Message}
use Rattle.td_op.specs.declared.reply.Reply.{Reply}
use Rattle.td_op.specs.Message.{is_for}
use Rattle.td_world.specs.World.{reply_to, moved}
use Rattle.td_world.proofs.world.World.step_taking.Goals as goal

taken : (m k : Message) → Take m ≡ Take k → m ≡ k
taken m k e = cc

pub step-requires-clause-came : goal.step-requires-clause-came
step-requires-clause-came g c = λ m e.
    let same : c.args.message.now ≡ m = taken c.args.message.now m (sym c.requires.input ∙ e) in (
      subst (λ (k : Message). In k c.args.self.now.sent) same c.requires.sent,
      subst (λ (k : Message). is_for c.args.to k ≡ true) same c.requires.addressed,
    )

pub returns-clause-reply : goal.returns-clause-reply
returns-clause-reply g c =
    subst (λ (i : Input). IfOk c.step.result (λ (r : Reply). r
    ≡ reply_to (record { site = c.args.to; input = i }) c.args.self.now)) c.requires.input c.step.ensures.reply

pub returns-clause-ok : goal.returns-clause-ok
returns-clause-ok g c =
    subst (λ (i : Input). OnOk c.step.result (c.step.new.self
    ≡ moved (record { site = c.args.to; input = i }) c.args.self.now)) c.requires.input c.step.ensures.ok
