use Rattle.td_law_interleaving.proofs.Strangers.{none_between, none_at_atom, none_in_document}
use Rattle.td_law_interleaving.proofs.laws.no_stranger_comes_between.Goals as goal

pub returns-clause-order : goal.returns-clause-order
returns-clause-order c = none_between

pub returns-clause-documents : goal.returns-clause-documents
returns-clause-documents c = none_in_document

pub returns-clause-atoms : goal.returns-clause-atoms
returns-clause-atoms c = none_at_atom
