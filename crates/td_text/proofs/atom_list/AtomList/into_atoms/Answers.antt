use Rattle.std.proofs.Common.{subst}
use Rattle.std.specs.Prelude.{All}
use Rattle.td_base.specs.Atom.{IsAtom}
use Rattle.td_text.proofs.atom_list.AtomList.into_atoms.Goals as goal

pub returns-clause-each : goal.returns-clause-each
returns-clause-each c = subst (All IsAtom) c.self.view_is c.self.invariant.each
