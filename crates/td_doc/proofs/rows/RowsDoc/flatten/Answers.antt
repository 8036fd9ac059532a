use Rattle.std.proofs.Common.{sym, subst}
use Rattle.td_doc.specs.RowParts.{IsRowParts}
use Rattle.td_doc.proofs.Flattening.{fits}
use Rattle.td_doc.proofs.Identities.{flat_parts}
use Rattle.td_doc.proofs.rows.RowsDoc.flatten.Goals as goal

pub invariant_of-self-2 : goal.invariant_of-self-2
invariant_of-self-2 c =
    let rows = c.self.inside.rows.items in
    let slot = c.in_ok-slot.slot in
    subst IsRowParts (sym c.in_ok-flatten_rows.ensures.ok) (flat_parts slot rows c.self.invariant (fits slot rows))
