use Rattle.std.proofs.Common.{List, length, sym, ap, ◌∙◌, subst, arith}
use Rattle.td_doc.specs.Document.{DocRow}
use Rattle.td_doc.specs.Insertion.{put_rows}
use Rattle.td_doc.specs.RowParts.{IsRowParts, AreNew}
use Rattle.td_doc.proofs.Identities.{put_parts}
use Rattle.td_doc.proofs.rows.Rows.put_array.Goals as goal

pub invariant_of-self-2 : goal.invariant_of-self-2
invariant_of-self-2 c =
    let rows = c.self.inside.rows.items in
    let atoms = c.args.atoms.now in
    let slot = c.in_ok-slot.slot in
    let made = c.in_ok-new.ensures in
    let all = c.put_rows.ensures ∙ (λ i. put_rows (made i) (c.make_room.ensures.rows i)) in
    let few = c.in_ok-make_room.ensures.few in
    let new : AreNew rows atoms = subst (λ (q : List DocRow). AreNew q atoms) (sym c.self.view_is) c.requires in
    subst IsRowParts (sym all) (put_parts slot atoms rows c.self.invariant new
    (omega (arith, few, c.len.ensures, ap length made, c.in_ok-new.new.ok.0)))
