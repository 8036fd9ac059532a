use Rattle.std.proofs.Common.{ap, length, sym, ◌∙◌}
use Rattle.td_doc.specs.Slots.{rows_in_slot}
use Rattle.td_doc.proofs.RootRows.{all_in_root}
use Rattle.td_doc.proofs.slots.count.Goals as goal

pub returns-in-Root-clause-value : goal.returns-in-Root-clause-value
returns-in-Root-clause-value c =
    let rows = c.args.rows.now in
    ap length (sym (all_in_root rows) ∙ ap (rows_in_slot rows) (sym c.in-Root.is))
