use Rattle.std.proofs.Common.{length, sym, subst, ◌∙◌}
use Rattle.td_op.specs.declared.input.Input.TheVariants.{Take}
use Rattle.td_op.specs.declared.message.Message.TheVariants.{Vote as AVote}
use Rattle.td_machine.specs.Machine.{start}
use Rattle.td_machine.specs.Step.{step}
use Rattle.td_law_replay.specs.Judging.{Judgement, Steps}
use Rattle.td_check.specs.Sites.{ReplayValue, histories_of, machine_of, states_of, IsJudgedAt}
use Rattle.td_check.proofs.AtSeats.{if_ok_so, at_replay}
use Rattle.td_check.proofs.Judgements.{vote_is}
use Rattle.td_check.proofs.Placing.{with_machines}
use Rattle.td_check.proofs.replay.Replay.voted.Goals as goal

pub returns : goal.returns
returns g c =
    let inside : ReplayValue = record {
      trace = c.self.inside.trace.now;
      machines = c.self.inside.seats.items;
      done = c.self.inside.done.items;
    } in
    if_ok_so _ _ c.voted_at.result
    (λ judged it.
    subst (λ (j : Judgement). IsJudgedAt c.args.site j c.args.reply.now judged c.args.self.now
    (record inside { machines = c.voted_at.new.seats.items }))
    (sym (vote_is (histories_of c.args.self.now) (states_of c.args.self.now) c.args.site
    (machine_of c.args.self.now c.args.site) c.args.vote c.args.reply.now
    (sym c.is_misaddressed.ensures ∙ c.if-is_misaddressed.false)))
    (at_replay inside c.args.self.now c.self.view_is c.args.site (λ (r : ReplayValue). Steps (step
    (machine_of r c.args.site) (Take (AVote c.args.vote)))) c.args.reply.now judged
    c.voted_at.new.seats.items it)) (c.voted_at.ensures.judged (start c.args.site (length (histories_of inside))))

pub invariant_of-self : goal.invariant_of-self
invariant_of-self g c =
    with_machines c.self.inside.made
    (record {
      trace = c.self.inside.trace.now;
      machines = c.self.inside.seats.items;
      done = c.self.inside.done.items;
    }) c.self.invariant c.voted_at.new.seats.items c.voted_at.ensures.each
