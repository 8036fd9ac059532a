use Rattle.std.proofs.Common.{sym, subst, ◌∙◌}
use Rattle.std.specs.Result.{IfOk}
use Rattle.td_law_replay.specs.Judging.{Judgement}
use Rattle.td_check.specs.Sites.{histories_of, machine_of, states_of, IsJudgedAt}
use Rattle.td_check.specs.declared.judged.Judged.{Judged}
use Rattle.td_check.proofs.Judgements.{offered_is}
use Rattle.td_check.proofs.replay.Replay.offered.Goals as goal

pub returns : goal.returns
returns g c =
    let r = c.args.self.now in
    subst
    (λ (j : Judgement). IfOk c.offer.result
    (λ (d : Judged). IsJudgedAt c.args.site j c.args.reply.now d r c.offer.new.self))
    (offered_is (histories_of r) (states_of r) c.args.site (machine_of r c.args.site) c.args.dot
    (sym c.is_of.ensures ∙ c.if-is_of.false) c.deps-deps.result c.made_op-op.result c.deps-deps.ensures.deps
    c.made_op-op.ensures.op c.args.reply.now) c.offer.ensures
