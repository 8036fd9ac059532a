use Rattle.std.proofs.Common.{List, refl, sym, subst}
use Rattle.std.specs.Prelude.{◌≡◌, IsTrue}
use Rattle.td_doc.specs.Answers.{is_rooted}
use Rattle.td_doc.specs.Document.{DocRow}
use Rattle.td_doc.specs.Flatten.{flatten}
use Rattle.td_replica.specs.Parts.{StateValue, KeepsSlots}
use Rattle.td_replica.proofs.Kept.{changed_kept, second_ok, with_kept}
use Rattle.td_replica.proofs.state.State.flatten.Goals as goal

pub invariant_of-self : goal.invariant_of-self
invariant_of-self g c =
    let s = c.self.inside in
    let rows : List DocRow = g.D.Doc.rows s.doc in
    let after : List DocRow = g.D.Doc.rows c.flatten.new.self in
    let keeps : KeepsSlots rows (flatten c.args.slot.now rows) s.holds.holds =
    subst (λ (v : StateValue). KeepsSlots v.machine.doc (flatten c.args.slot.now v.machine.doc) v.machine.holds)
    (sym c.self.view_is) c.requires in
    with_kept s.site rows after s.have s.waiting s.holds s.holds s.tally s.past c.self.invariant refl
    (changed_kept c.flatten.result rows (flatten c.args.slot.now rows) after s.holds
    (second_ok c.flatten.result (IsTrue (is_rooted rows c.args.slot.now)) (after ≡ flatten c.args.slot.now rows)
    c.flatten.ensures.ok) c.flatten.ensures.err keeps c.self.invariant.kept)
