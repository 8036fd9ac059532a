use Rattle.std.proofs.Common.{◌≡◌, ◌∙◌, length, ap}
use Rattle.td_op.specs.declared.input.Input.TheVariants.{Take}
use Rattle.td_machine.specs.Step.{step}
use Rattle.td_editor.specs.declared.received.Received.TheVariants.{Took}
use Rattle.td_editor.specs.Editors.{EditorValue, all_nexts}
use Rattle.td_editor.proofs.Going.{err_always, stopped_first, stopped_later, done_later}
use Rattle.td_editor.proofs.editor.Editor.take.Goals as goal

pub returns-in_err-reply-clause-err : goal.returns-in_err-reply-clause-err
returns-in_err-reply-clause-err g c =
    err_always c.from_residual.result
    (stopped_first g.S.Screen.heard (Take c.args.message.now) c.args.self.now
    (all_nexts (step c.args.self.now.replica.machine (Take c.args.message.now)).machine) c.step.new.self
    c.in_err-reply.ensures.err)

pub returns-in_err-next-clause-err : goal.returns-in_err-next-clause-err
returns-in_err-next-clause-err g c =
    err_always c.from_residual-in_err-next.result
    (stopped_later g.S.Screen.heard (Take c.args.message.now) c.args.self.now all_nexts c.step.new.self
    c.catch_up.new.self
    c.in_ok-reply.ensures.ok c.in_err-next.ensures.err)

pub returns-clause-took : goal.returns-clause-took
returns-clause-took g c =
    let reply : c.in_ok-reply.reply ≡ (step c.args.self.now.replica.machine (Take c.args.message.now)).reply =
    c.in_ok-reply.ensures.reply in
    let next : c.in_ok-next.next
    ≡ length (all_nexts (step c.args.self.now.replica.machine (Take c.args.message.now)).machine) =
    c.in_ok-next.ensures.count
    ∙ ap (λ (e : EditorValue g.row.S-State.Denot). length (all_nexts e.replica.machine)) c.in_ok-reply.ensures.ok in
    λ due.
    record {
      answered = λ i. Took (reply i) (next i);
      after = done_later g.S.Screen.heard (Take c.args.message.now) c.args.self.now all_nexts c.step.new.self
          c.catch_up.new.self c.in_ok-reply.ensures.ok c.in_ok-next.ensures.ok;
      ready = c.in_ok-next.ensures.ready;
    }
