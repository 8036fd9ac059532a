use Rattle.td_world.proofs.Causes.{settled_one}
use Rattle.td_world.proofs.laws.settled_worlds_are_one.Goals as goal

pub returns : goal.returns
returns c = settled_one
