use Rattle.td_machine.proofs.Logged.{logged}
use Rattle.td_machine.proofs.laws.logs_are_made_and_taken.Goals as goal

pub returns : goal.returns
returns c = logged
