use Rattle.std.proofs.Common.{sym, ◌∙◌}
use Rattle.td_base.proofs.RunPieces.{piece_bytes}
use Rattle.td_text.proofs.atom_list.AtomList.bytes.Goals as goal

pub returns : goal.returns
returns c = rw (← c.self.view_is)
    (c.deref.ensures.value ∙ sym (piece_bytes c.self.inside.lengths.items c.self.inside.bytes.items
    c.self.invariant.whole))
