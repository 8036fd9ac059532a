use Rattle.td_law_meeting.proofs.Example.{settled, spells}
use Rattle.td_law_meeting.proofs.examples.two_workers_are_settled.Goals as goal

pub returns-clause-packet : goal.returns-clause-packet
returns-clause-packet c = spells

pub returns-clause-settled : goal.returns-clause-settled
returns-clause-settled c = settled
