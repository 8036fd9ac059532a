use Rattle.td_machine.proofs.Reached.{rules_of}
use Rattle.td_machine.proofs.laws.documents_obey_their_rules.Goals as goal

-- src/laws.rt:42:1
pub returns : goal.returns
returns c = rules_of
