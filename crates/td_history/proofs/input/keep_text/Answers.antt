use Rattle.td_history.proofs.Standing.{push_get}
use Rattle.td_history.proofs.input.keep_text.Goals as goal

pub returns-clause-input : goal.returns-clause-input
returns-clause-input c = λ ops offered. rw (c.push.ensures.runs, c.len-number.ensures, push_get)
