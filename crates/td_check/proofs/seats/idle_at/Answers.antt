use Rattle.std.proofs.Common.{sym, subst}
use Rattle.td_op.specs.declared.input.Input.TheVariants.{Next}
use Rattle.td_machine.specs.Machine.{Machine}
use Rattle.td_machine.specs.Step.{step}
use Rattle.td_law_replay.specs.Judging.{Steps}
use Rattle.td_check.specs.Sites.{IsJudged}
use Rattle.td_check.proofs.AtSeats.{there_is}
use Rattle.td_check.proofs.seats.idle_at.Goals as goal

pub returns : goal.returns
returns g c = λ d.
    subst (λ (m : Machine). IsJudged (Steps (step m Next)) c.args.reply.now c.judge_idle.result m m)
    (sym (there_is c.args.seats.now c.args.site c.place.result c.place.ensures.least c.requires.within
    c.place.ensures.place c.index-seats-place.result _ c.index-seats-place.is d)) c.judge_idle.ensures
