use Rattle.td_machine.proofs.FlattenWitness.{consistent}
use Rattle.td_machine.proofs.examples.a_family_with_a_flatten_is_consistent.Goals as goal

pub returns-clause-consistent : goal.returns-clause-consistent
returns-clause-consistent c = consistent
