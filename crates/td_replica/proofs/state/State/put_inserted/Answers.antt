use Rattle.std.proofs.Common.{◌≡◌, ◌∙◌, sym, ap, subst}
use Rattle.std.specs.Option.{option_and_then}
use Rattle.td_base.specs.Value.{DotValue}
use Rattle.td_op.specs.declared.body.Body.{Body}
use Rattle.td_op.specs.declared.body.Body.TheVariants.{Insert}
use Rattle.td_op.specs.Op.{OpValue}
use Rattle.td_doc.specs.Answers.{IsFresh}
use Rattle.td_doc.specs.Insertion.{insert_run}
use Rattle.td_machine.specs.Machine.{Machine}
use Rattle.td_machine.specs.Making.{effect}
use Rattle.td_machine.specs.Shown.{change_by}
use Rattle.td_replica.specs.LastChange.{put_by}
use Rattle.td_replica.specs.Parts.{StateValue, KeepsSlots, with_machine}
use Rattle.td_replica.proofs.state.State.put_inserted.Goals as goal

pub put_run-requires-clause-fresh : goal.put_run-requires-clause-fresh
put_run-requires-clause-fresh g c = subst (IsFresh c.args.self.now.machine.doc) (sym c.dot.ensures.dot) c.requires.fresh

pub put_run-requires-clause-keeps : goal.put_run-requires-clause-keeps
put_run-requires-clause-keeps g c =
    let m : Machine = c.args.self.now.machine in
    let x : OpValue = c.args.op.now in
    subst (λ (d : DotValue). KeepsSlots m.doc (insert_run c.args.slot.now d c.args.run.now m.doc) m.holds)
    (sym c.dot.ensures.dot)
    (subst (λ (b : Body). KeepsSlots m.doc (effect m.log x.dot b m.doc) m.holds) c.requires.inserts c.requires.keeps)

pub returns-clause-ok : goal.returns-clause-ok
returns-clause-ok g c =
    let s : StateValue = c.args.self.now in
    let m : Machine = s.machine in
    c.in_ok-put_run.ensures.ok
    ∙ (λ i. with_machine (record m {
      doc = effect m.log (c.dot.ensures.dot i) (sym c.requires.inserts i) m.doc;
    }) s)

pub returns-clause-change : goal.returns-clause-change
returns-clause-change g c = λ ops e.
    let m : Machine = c.args.self.now.machine in
    let x : OpValue = c.args.op.now in
    let b : x.body ≡ Insert c.args.slot.now c.args.run.now = c.requires.inserts in
    ap (option_and_then (λ (y : OpValue). put_by y.dot y.body c.put_run.new.self.machine.doc)) e
    ∙ ap (λ (v : StateValue). put_by x.dot x.body v.machine.doc) (returns-clause-ok g c)
    ∙ (λ i. put_by x.dot (b i) (effect m.log x.dot (b i) m.doc))
    ∙ (λ i. change_by x.dot (sym b i) m.doc)
