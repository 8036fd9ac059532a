use Rattle.std.proofs.Common.{subst}
use Rattle.td_tree.specs.KeptAtom.{IsKept}
use Rattle.td_tree.proofs.kept_atom.KeptAtom.bytes.Goals as goal

pub shared_ref_as_front-result : goal.shared_ref_as_front-result
shared_ref_as_front-result c = (subst IsKept c.in-Short.is c.self.invariant).0
