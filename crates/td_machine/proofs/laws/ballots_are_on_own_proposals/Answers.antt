use Rattle.td_machine.proofs.Reached.{ballots_of, open_of}
use Rattle.td_machine.proofs.laws.ballots_are_on_own_proposals.Goals as goal

pub returns-clause-own : goal.returns-clause-own
returns-clause-own c = ballots_of

pub returns-clause-opened : goal.returns-clause-opened
returns-clause-opened c = open_of
