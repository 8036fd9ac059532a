use Rattle.td_law_convergence.proofs.EveryFamily.{atoms, text, converge}
use Rattle.td_law_convergence.proofs.laws.texts_converge.Goals as goal

pub returns-clause-atoms : goal.returns-clause-atoms
returns-clause-atoms c = atoms

pub returns-clause-text : goal.returns-clause-text
returns-clause-text c = text

pub returns-clause-converge : goal.returns-clause-converge
returns-clause-converge c = converge
