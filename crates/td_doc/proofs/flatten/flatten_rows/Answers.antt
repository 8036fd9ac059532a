use Rattle.std.proofs.Common.{List, Some, not, map, length, ap, ◌∙◌, arith, rules}
use Rattle.std.proofs.lemmas.Fn.{filter_same}
use Rattle.td_path.specs.SlotPaths.{slot_contains}
use Rattle.td_doc.specs.Document.{DocRow, live_rows}
use Rattle.td_doc.specs.Slots.{rows_below}
use Rattle.td_doc.specs.Array.{named, array}
use Rattle.td_doc.specs.Insertion.{put_rows}
use Rattle.td_doc.proofs.Flattening.{fits}
use Rattle.td_doc.proofs.flatten.flatten_rows.Goals as goal

pub put_rows-requires : goal.put_rows-requires
put_rows-requires c =
    let slot = c.args.slot.now in
    let rows = c.args.rows.now in
    let kept = filter_same _ (λ (r : DocRow). not (slot_contains slot r.path)) _ (λ x b f' k. search rules) _ _
    c.retain.ensures.filtered in
    let atoms = c.deref-2.ensures.value ∙ c.in_ok-atoms.ensures
    ∙ ap (λ (q : List DocRow). map named (live_rows (rows_below q (Some slot)))) c.deref.ensures.value in
    let made = c.in_ok-new.ensures ∙ ap (array slot) atoms in
    omega (
      arith,
      ap length kept,
      ap length made,
      fits slot rows.items,
      c.retain.new.self.ok.0,
      rows.ok.0,
      rows.ok.1,
      c.retain.ensures.capacity,
    )

pub returns-clause-ok : goal.returns-clause-ok
returns-clause-ok c =
    let slot = c.args.slot.now in
    let kept = filter_same _ (λ (r : DocRow). not (slot_contains slot r.path)) _ (λ x b f' k. search rules) _ _
    c.retain.ensures.filtered in
    let atoms = c.deref-2.ensures.value ∙ c.in_ok-atoms.ensures
    ∙ ap (λ (q : List DocRow). map named (live_rows (rows_below q (Some slot)))) c.deref.ensures.value in
    let made = c.in_ok-new.ensures ∙ ap (array slot) atoms in
    c.put_rows.ensures ∙ (λ i. put_rows (made i) (kept i))
