use Rattle.std.proofs.Common.{arith}
use Rattle.td_text.proofs.AtomListLemmas.{count_pieces}
use Rattle.td_text.proofs.atom_list.AtomList.len.Goals as goal

pub returns : goal.returns
returns c = rw (← c.self.view_is) (omega (arith, count_pieces c.self.inside.lengths.items c.self.inside.bytes.items))
