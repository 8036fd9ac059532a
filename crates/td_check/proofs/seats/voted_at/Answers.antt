use Rattle.td_op.specs.declared.input.Input.TheVariants.{Take}
use Rattle.td_op.specs.declared.message.Message.TheVariants.{Vote as AVote}
use Rattle.td_machine.specs.Machine.{Machine}
use Rattle.td_machine.specs.Step.{step}
use Rattle.td_law_replay.specs.Judging.{Steps}
use Rattle.td_check.proofs.AtSeats.{if_ok_so, in_seats}
use Rattle.td_check.proofs.seats.voted_at.Goals as goal

pub returns-clause-judged : goal.returns-clause-judged
returns-clause-judged g c = λ d.
    if_ok_so _ _ c.judge_vote.result
    (λ judged it.
    in_seats d c.args.seats.now.items c.args.site c.place.result c.place.ensures.least c.requires
    c.place.ensures.place c.index_mut.result.now _ c.judge_vote.new.seat c.index_mut.ensures.value
    (λ (m : Machine). Steps (step m (Take (AVote c.args.vote)))) c.args.reply.now judged it) c.judge_vote.ensures
