use Rattle.td_world.proofs.Ending.{three_enough, always_enough}
use Rattle.td_world.proofs.laws.passes_end.Goals as goal

pub returns-clause-three : goal.returns-clause-three
returns-clause-three c = three_enough

pub returns-clause-always : goal.returns-clause-always
returns-clause-always c = always_enough
