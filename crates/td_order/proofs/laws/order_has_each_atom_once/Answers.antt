use Rattle.td_order.proofs.Spliced.{order_members}
use Rattle.td_order.proofs.laws.order_has_each_atom_once.Goals as goal

pub returns-clause-atoms : goal.returns-clause-atoms
returns-clause-atoms c = order_members
