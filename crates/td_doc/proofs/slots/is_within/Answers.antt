use Rattle.std.proofs.Common.{Option, Some, true, find, is_some, sym, ap, ◌∙◌}
use Rattle.std.specs.Option.{option_map}
use Rattle.td_path.specs.SlotPaths.{goes_on}
use Rattle.td_path.specs.declared.slot_path.SlotPath.TheVariants.{Below}
use Rattle.td_doc.specs.Document.{DocRow, has_id}
use Rattle.td_doc.specs.Slots.{rows_below, is_within}
use Rattle.td_base.proofs.Searches.{find_among}
use Rattle.td_doc.proofs.slots.is_within.Goals as goal

pub returns-in-Root : goal.returns-in-Root
returns-in-Root c =
    let rows = c.args.rows.now in
    let id = c.args.id in
    c.has_row.ensures ∙ find_among (λ (r : DocRow). true) (has_id id) rows ∙ ap (is_within rows id) (sym c.in-Root.is)

pub returns-in-Some : goal.returns-in-Some
returns-in-Some c =
    let rows = c.args.rows.now in
    let id = c.args.id in
    let bit = c.in-At.bit in
    c.has_id_below.ensures
    ∙ find_among (λ (r : DocRow). goes_on c.row.inside.path bit r.path) (has_id id) rows
    ∙ ap (λ (o : Option DocRow). is_some (find (has_id id)
    (rows_below rows (option_map (λ (r : DocRow). Below r.path bit) o))))
    (ap Some c.row.view_is ∙ c.in-Some.ensures)
    ∙ ap (is_within rows id) (sym c.in-At.is)
