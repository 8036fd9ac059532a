use Rattle.td_machine.proofs.Reached.{of_sites, waits_of_sites}
use Rattle.td_machine.proofs.laws.operations_are_of_its_sites.Goals as goal

pub returns-clause-had : goal.returns-clause-had
returns-clause-had c = of_sites

pub returns-clause-waiting : goal.returns-clause-waiting
returns-clause-waiting c = waits_of_sites
