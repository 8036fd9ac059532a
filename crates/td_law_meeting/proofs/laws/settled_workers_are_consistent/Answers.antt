use Rattle.td_law_meeting.proofs.Consistency.{consistent}
use Rattle.td_law_meeting.proofs.laws.settled_workers_are_consistent.Goals as goal

pub returns : goal.returns
returns c = consistent
