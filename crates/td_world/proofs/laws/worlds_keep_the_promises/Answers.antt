use Rattle.td_world.proofs.Promised.{promised, atoms_shown, shown}
use Rattle.td_world.proofs.laws.worlds_keep_the_promises.Goals as goal

pub returns-clause-promises : goal.returns-clause-promises
returns-clause-promises c = promised

pub returns-clause-atoms : goal.returns-clause-atoms
returns-clause-atoms c = atoms_shown

pub returns-clause-texts : goal.returns-clause-texts
returns-clause-texts c = shown
