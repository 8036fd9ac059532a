use Rattle.std.proofs.Common.{Option, Some, true, sym, ap, ◌∙◌}
use Rattle.std.specs.List.{list_all}
use Rattle.std.specs.Option.{option_map}
use Rattle.td_path.specs.SlotPaths.{goes_on}
use Rattle.td_path.specs.declared.slot.Slot.{Slot}
use Rattle.td_path.specs.declared.slot_path.SlotPath.TheVariants.{Below}
use Rattle.td_doc.specs.Document.{DocRow}
use Rattle.td_doc.specs.Slots.{rows_below, is_known_row, is_known}
use Rattle.td_base.proofs.Searches.{all_among}
use Rattle.td_doc.proofs.slots.is_known.Goals as goal

pub returns-in-Root : goal.returns-in-Root
returns-in-Root c =
    let rows = c.args.rows.now in
    let v = c.args.v.now in
    c.are_known.ensures ∙ all_among (λ (r : DocRow). true) (is_known_row v) rows
    ∙ ap (λ (slot : Slot). is_known rows slot v) (sym c.in-Root.is)

pub returns-in-Some : goal.returns-in-Some
returns-in-Some c =
    let rows = c.args.rows.now in
    let v = c.args.v.now in
    let bit = c.in-At.bit in
    c.is_known_below.ensures
    ∙ all_among (λ (r : DocRow). goes_on c.row.inside.path bit r.path) (is_known_row v) rows
    ∙ ap (λ (o : Option DocRow). list_all (is_known_row v)
    (rows_below rows (option_map (λ (r : DocRow). Below r.path bit) o))) (ap Some c.row.view_is ∙ c.in-Some.ensures)
    ∙ ap (λ (slot : Slot). is_known rows slot v) (sym c.in-At.is)
