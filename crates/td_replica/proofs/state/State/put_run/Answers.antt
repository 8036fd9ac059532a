use Rattle.std.proofs.Common.{List, refl, sym, subst}
use Rattle.std.specs.Prelude.{◌≡◌, IsTrue}
use Rattle.td_doc.specs.Answers.{is_rooted}
use Rattle.td_doc.specs.Document.{DocRow}
use Rattle.td_doc.specs.Insertion.{insert_run}
use Rattle.td_replica.specs.Parts.{StateValue, KeepsSlots}
use Rattle.td_replica.proofs.Kept.{changed_kept, second_ok, with_kept}
use Rattle.td_replica.proofs.state.State.put_run.Goals as goal

pub invariant_of-self : goal.invariant_of-self
invariant_of-self g c =
    let s = c.self.inside in
    let rows : List DocRow = g.D.Doc.rows s.doc in
    let after : List DocRow = g.D.Doc.rows c.insert_run.new.self in
    let told : List DocRow = insert_run c.args.slot.now c.args.dot c.args.run.now rows in
    let keeps : KeepsSlots rows told s.holds.holds =
    subst (λ (v : StateValue). KeepsSlots v.machine.doc
    (insert_run c.args.slot.now c.args.dot c.args.run.now v.machine.doc) v.machine.holds)
    (sym c.self.view_is) c.requires.keeps in
    with_kept s.site rows after s.have s.waiting s.holds s.holds s.tally s.past c.self.invariant refl
    (changed_kept c.insert_run.result rows told after s.holds
    (second_ok c.insert_run.result (IsTrue (is_rooted rows c.args.slot.now)) (after ≡ told)
    c.insert_run.ensures.ok) c.insert_run.ensures.err keeps c.self.invariant.kept)
