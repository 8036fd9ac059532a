use Rattle.std.proofs.Common.{◌≡◌, ◌-◌, List, get_or, length, ap, sym, subst, ◌∙◌}
use Rattle.std.proofs.lemmas.List.{set-get_or}
use Rattle.td_op.specs.declared.input.Input.TheVariants.{Next}
use Rattle.td_machine.specs.Machine.{Machine, start}
use Rattle.td_machine.specs.Step.{step}
use Rattle.std.specs.Result.{IfOk}
use Rattle.td_law_replay.specs.Judging.{Judgement, Steps}
use Rattle.td_check.specs.ReplayParts.{IsOutlineAt}
use Rattle.td_check.specs.Sites.{ReplayValue, histories_of, machine_of, states_of, IsJudged, IsJudgedAt}
use Rattle.td_check.specs.declared.judged.Judged.{Judged}
use Rattle.td_check.proofs.Judgements.{some_so, next_is_idle, taken_is}
use Rattle.td_check.proofs.replay.Replay.went.Goals as goal

pub take_up-requires-clause-outlined : goal.take_up-requires-clause-outlined
take_up-requires-clause-outlined g c =
    some_so _ (IsOutlineAt (machine_of c.args.self.now c.args.site)) c.made_op-op.result
    (λ x fit. c.is_placed.ensures.outlines x fit.2) c.made_op-op.ensures.fit

pub returns-in_default : goal.returns-in_default
returns-in_default g c =
    let r : ReplayValue = c.args.self.now in
    let m : Machine = machine_of r c.args.site in
    let d : Machine = start c.args.site (length (histories_of r)) in
    let there : get_or c.deref.result.now (c.args.site - 1) d ≡ m =
    ap (λ (ms : List Machine). get_or ms (c.args.site - 1) d)
    (c.deref.ensures.value ∙ ap (λ (q : ReplayValue). q.machines) c.self.view_is) in (
      subst (λ (j : Judgement). IsJudged j c.args.reply.now c.idle_at.result m m)
          (sym (next_is_idle (histories_of r) (states_of r) c.args.site m c.args.reply.now
          (sym c.taken_of.ensures ∙ c.in_default.is)))
          (subst (λ (n : Machine). IsJudged (Steps (step n Next)) c.args.reply.now c.idle_at.result n n) there
          (c.idle_at.ensures d)),
      ap (λ (ms : List Machine). record r { machines = ms }) (sym (set-get_or r.machines (c.args.site - 1) d)),
    )

pub returns : goal.returns
returns g c =
    let r = c.args.self.now in
    subst
    (λ (j : Judgement). IfOk c.take_up.result
    (λ (d : Judged). IsJudgedAt c.args.site j c.args.reply.now d r c.take_up.new.self))
    (taken_is (histories_of r) (states_of r) c.args.site (machine_of r c.args.site) c.in-Some.dot
    (sym c.is_of.ensures ∙ c.if-is_of.false) c.deps-deps.result c.made_op-op.result c.deps-deps.ensures.deps
    c.made_op-op.ensures.op c.args.reply.now (sym c.taken_of.ensures ∙ c.in-Some.is)) c.take_up.ensures
