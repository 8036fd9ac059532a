use Rattle.td_op.specs.declared.input.Input.TheVariants.{Local}
use Rattle.td_machine.specs.Machine.{Machine}
use Rattle.td_machine.specs.Step.{step}
use Rattle.td_law_replay.specs.Judging.{Steps}
use Rattle.td_check.proofs.AtSeats.{if_ok_so, in_seats}
use Rattle.td_check.proofs.seats.asked_at.Goals as goal

pub returns-clause-judged : goal.returns-clause-judged
returns-clause-judged g c = λ d.
    if_ok_so _ _ c.judge_asked.result
    (λ judged it.
    in_seats d c.args.seats.now.items c.args.site c.place.result c.place.ensures.least c.requires
    c.place.ensures.place c.index_mut.result.now _ c.judge_asked.new.seat c.index_mut.ensures.value
    (λ (m : Machine). Steps (step m (Local c.args.request))) c.args.reply.now judged it) c.judge_asked.ensures
