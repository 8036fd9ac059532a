use Rattle.td_law_replay.proofs.Values.{values_of}
use Rattle.td_law_replay.proofs.laws.operations_are_values.Goals as goal

pub returns : goal.returns
returns c = values_of
