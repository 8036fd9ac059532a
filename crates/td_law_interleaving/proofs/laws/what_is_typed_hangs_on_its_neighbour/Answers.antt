use Rattle.td_law_interleaving.proofs.Behind.{typed_behind}
use Rattle.td_law_interleaving.proofs.InFront.{typed_in_front}
use Rattle.td_law_interleaving.proofs.laws.what_is_typed_hangs_on_its_neighbour.Goals as goal

pub returns-clause-behind : goal.returns-clause-behind
returns-clause-behind c = typed_behind

pub returns-clause-in_front : goal.returns-clause-in_front
returns-clause-in_front c = typed_in_front
