use Rattle.td_rope.proofs.Standard.{one_index}
use Rattle.td_rope.proofs.laws.an_offset_has_one_index.Goals as goal

pub returns : goal.returns
returns c = one_index
