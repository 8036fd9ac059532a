use Rattle.td_machine.proofs.Reached.{known_of}
use Rattle.td_machine.proofs.laws.documents_are_known.Goals as goal

pub returns : goal.returns
returns c = known_of
