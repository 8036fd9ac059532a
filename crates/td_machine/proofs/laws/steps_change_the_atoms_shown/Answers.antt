use Rattle.td_machine.proofs.Changes.{changes}
use Rattle.td_machine.proofs.laws.steps_change_the_atoms_shown.Goals as goal

pub returns : goal.returns
returns c = changes
