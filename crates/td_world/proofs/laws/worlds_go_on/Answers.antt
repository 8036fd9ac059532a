use Rattle.td_world.proofs.Moves.{world_moved}
use Rattle.td_world.proofs.laws.worlds_go_on.Goals as goal

pub returns : goal.returns
returns c = λ w move i fit. world_moved w i move fit
