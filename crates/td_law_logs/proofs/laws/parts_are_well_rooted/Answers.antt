use Rattle.td_law_logs.proofs.WellRooted.{part_rooted}
use Rattle.td_law_logs.proofs.laws.parts_are_well_rooted.Goals as goal

pub returns : goal.returns
returns c = part_rooted
