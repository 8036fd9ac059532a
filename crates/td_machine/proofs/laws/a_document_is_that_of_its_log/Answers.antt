use Rattle.td_machine.proofs.Reached.{replay_of}
use Rattle.td_machine.proofs.laws.a_document_is_that_of_its_log.Goals as goal

pub returns : goal.returns
returns c = replay_of
