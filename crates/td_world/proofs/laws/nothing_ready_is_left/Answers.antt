use Rattle.td_world.proofs.Nexts.{all_drained}
use Rattle.td_world.proofs.laws.nothing_ready_is_left.Goals as goal

pub returns : goal.returns
returns c = all_drained
