use Rattle.td_doc.proofs.PathEnds.{last_slot-short, last_slot-last}
use Rattle.td_doc.proofs.path_row.PathRow.own_slot.Goals as goal

pub returns-in_default : goal.returns-in_default
returns-in_default c = rw (← c.self.view_is, ← c.as_slice.ensures) (last_slot-short _ _ c.in_default.len_below)

pub returns-in-len2-up : goal.returns-in-len2-up
returns-in-len2-up c = rw (← c.self.view_is, ← c.as_slice.ensures)
    (last_slot-last _ _ _ _ c.in-len2-up.len_at_least c.parent-item.is c.last-item.is)
