use Rattle.td_live.proofs.Each.{stays_in_room}
use Rattle.td_live.proofs.working.work_stays_in_its_room.Goals as goal

pub returns : goal.returns
returns c = stays_in_room
