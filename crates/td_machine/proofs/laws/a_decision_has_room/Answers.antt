use Rattle.td_machine.proofs.Reached.{room_of}
use Rattle.td_machine.proofs.laws.a_decision_has_room.Goals as goal

pub returns : goal.returns
returns c = room_of
