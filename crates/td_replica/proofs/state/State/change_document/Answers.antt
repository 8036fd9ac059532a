use Rattle.std.proofs.Common.{List, refl, sym, subst}
use Rattle.td_doc.specs.Document.{DocRow}
use Rattle.td_machine.specs.Making.{effect}
use Rattle.td_op.specs.Op.{OpValue}
use Rattle.td_replica.specs.Parts.{StateValue, KeepsSlots}
use Rattle.td_replica.proofs.Kept.{changed_kept, with_kept}
use Rattle.td_replica.proofs.state.State.change_document.Goals as goal

pub invariant_of-self : goal.invariant_of-self
invariant_of-self g c =
    let s = c.self.inside in
    let x : OpValue = c.args.op.now in
    let rows : List DocRow = g.D.Doc.rows s.doc in
    let after : List DocRow = g.D.Doc.rows c.apply.new.doc in
    let keeps : KeepsSlots rows (effect s.past.log x.dot x.body rows) s.holds.holds =
    subst (λ (v : StateValue). KeepsSlots v.machine.doc (effect v.machine.log x.dot x.body v.machine.doc)
    v.machine.holds) (sym c.self.view_is) c.requires.keeps in
    with_kept s.site rows after s.have s.waiting s.holds s.holds s.tally s.past c.self.invariant refl
    (changed_kept c.apply.result rows (effect s.past.log x.dot x.body rows) after s.holds c.apply.ensures.ok
    c.apply.ensures.err keeps c.self.invariant.kept)
