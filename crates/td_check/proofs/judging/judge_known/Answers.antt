use Rattle.td_law_replay.specs.Judging.{outline}
use Rattle.td_check.proofs.Outcomes.{known_judged}
use Rattle.td_check.proofs.judging.judge_known.Goals as goal

pub returns : goal.returns
returns g c =
    known_judged c.args.seat.now c.of-known.result (outline c.args.dot c.args.deps.now) c.of-known.ensures
    c.args.reply.now c.in_ok-answer.answer c.judged_by.result c.know.new.self c.in_ok-answer.ensures.reply
    c.judged_by.ensures c.requires.other c.in_ok-answer.ensures.ok
