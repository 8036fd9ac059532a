use Rattle.td_input.proofs.Whole.{input_short}
use Rattle.td_input.proofs.writing.write_input.Goals as goal

pub returns-in_err-push_input-clause-short : goal.returns-in_err-push_input-clause-short
returns-in_err-push_input-clause-short c = input_short c.args.input.now c.can_write.ensures

pub returns-clause-short : goal.returns-clause-short
returns-clause-short c = input_short c.args.input.now c.can_write.ensures
