use Rattle.td_editor.proofs.Together.{consistent, promised, one_text}
use Rattle.td_editor.proofs.laws.editors_converge.Goals as goal

pub returns-clause-consistent : goal.returns-clause-consistent
returns-clause-consistent c = λ replicas t. consistent replicas t

pub returns-clause-promises : goal.returns-clause-promises
returns-clause-promises c = λ replicas t. promised replicas t

pub returns-clause-text : goal.returns-clause-text
returns-clause-text c = λ replicas r s t i j same. one_text replicas r s t i j same
