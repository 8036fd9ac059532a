use Rattle.std.proofs.Common.{sym, ◌∙◌, refl, None, subst, Option}
use Rattle.td_machine.specs.Machine.{Machine}
use Rattle.td_doc.specs.Document.{IsDocument}
use Rattle.td_idle.specs.declared.idle.Counted.{Counted}
use Rattle.td_idle.specs.declared.idle.Idle.{Idle}
use Rattle.td_idle.proofs.Replicas.{document}
use Rattle.td_idle.proofs.Certifying.{Reasons, reasons, certified, no_candidate}
use Rattle.td_idle.proofs.Maximum.{certified_is_best}
use Rattle.td_idle.proofs.BestSlot.{some_best, none_best}
use Rattle.td_idle.proofs.idle.best.Goals as goal

pub returns-in-Some-clause-certified : goal.returns-in-Some-clause-certified
returns-in-Some-clause-certified g c =
    let m : Machine = c.args.replica.now.machine in
    let d : IsDocument m.doc = document c.args.replica.now c.entries.ensures.replica in
    let i : Idle = record {
      slot = c.in-Some.best.slot;
      rows = c.in-Some.best.rows;
      tops = c.in_ok-tops.tops;
      unknown = c.tops.new.unknown;
    } in
    let r : Reasons m i.tops.items i.unknown.items c.best_of.result =
    reasons m d c.stable-v.result c.stable-v.ensures (g.D.Doc.rows c.doc.result.now) c.doc.ensures
    c.in_ok-ids.ids.items c.in_ok-ids.ensures (g.D.Doc.rows c.doc-2.result.now) c.doc-2.ensures c.deref.result.now
    c.deref.ensures.value c.in_ok-unknown.unknown.items c.in_ok-unknown.ensures c.tops.new.unknown.items
    c.in_ok-tops.ensures.unknown c.in_ok-tops.tops.items c.in_ok-tops.ensures.tops
    (g.D.Doc.rows c.doc-3.result.now) c.doc-3.ensures c.deref-2.result.now c.deref-2.ensures.value c.best_of.result
    c.best_of.ensures in
    certified m d (sym c.is_candidate.ensures ∙ c.if-is_candidate.false) i c.in-Some.best refl refl
    (subst (λ (o : Option Counted). Reasons m i.tops.items i.unknown.items o) c.in-Some.is r)

pub returns-in-Some-clause-best : goal.returns-in-Some-clause-best
returns-in-Some-clause-best g c =
    let m : Machine = c.args.replica.now.machine in
    let d : IsDocument m.doc = document c.args.replica.now c.entries.ensures.replica in
    let i : Idle = record {
      slot = c.in-Some.best.slot;
      rows = c.in-Some.best.rows;
      tops = c.in_ok-tops.tops;
      unknown = c.tops.new.unknown;
    } in
    let r : Reasons m i.tops.items i.unknown.items c.best_of.result =
    reasons m d c.stable-v.result c.stable-v.ensures (g.D.Doc.rows c.doc.result.now) c.doc.ensures
    c.in_ok-ids.ids.items c.in_ok-ids.ensures (g.D.Doc.rows c.doc-2.result.now) c.doc-2.ensures c.deref.result.now
    c.deref.ensures.value c.in_ok-unknown.unknown.items c.in_ok-unknown.ensures c.tops.new.unknown.items
    c.in_ok-tops.ensures.unknown c.in_ok-tops.tops.items c.in_ok-tops.ensures.tops
    (g.D.Doc.rows c.doc-3.result.now) c.doc-3.ensures c.deref-2.result.now c.deref-2.ensures.value c.best_of.result
    c.best_of.ensures in
    certified_is_best m d i
    (certified m d (sym c.is_candidate.ensures ∙ c.if-is_candidate.false) i c.in-Some.best refl refl
    (subst (λ (o : Option Counted). Reasons m i.tops.items i.unknown.items o) c.in-Some.is r))

pub returns-then-is_candidate-clause-slot : goal.returns-then-is_candidate-clause-slot
returns-then-is_candidate-clause-slot g c =
    let m : Machine = c.args.replica.now.machine in
    let d : IsDocument m.doc = document c.args.replica.now c.entries.ensures.replica in
    some_best m d c.in_ok-whole.field-0.slot c.in_ok-whole.field-0.rows c.in_ok-whole.ensures.best

pub returns-in-Some-clause-slot : goal.returns-in-Some-clause-slot
returns-in-Some-clause-slot g c =
    let m : Machine = c.args.replica.now.machine in
    let d : IsDocument m.doc = document c.args.replica.now c.entries.ensures.replica in
    some_best m d c.in-Some.best.slot c.in-Some.best.rows (returns-in-Some-clause-best g c)

pub returns-clause-none : goal.returns-clause-none
returns-clause-none g c = λ e t.
    let m : Machine = c.args.replica.now.machine in
    let d : IsDocument m.doc = document c.args.replica.now c.entries.ensures.replica in
    let r : Reasons m c.in_ok-tops.tops.items c.tops.new.unknown.items c.best_of.result =
    reasons m d c.stable-v.result c.stable-v.ensures (g.D.Doc.rows c.doc.result.now) c.doc.ensures
    c.in_ok-ids.ids.items c.in_ok-ids.ensures (g.D.Doc.rows c.doc-2.result.now) c.doc-2.ensures c.deref.result.now
    c.deref.ensures.value c.in_ok-unknown.unknown.items c.in_ok-unknown.ensures c.tops.new.unknown.items
    c.in_ok-tops.ensures.unknown c.in_ok-tops.tops.items c.in_ok-tops.ensures.tops
    (g.D.Doc.rows c.doc-3.result.now) c.doc-3.ensures c.deref-2.result.now c.deref-2.ensures.value c.best_of.result
    c.best_of.ensures in
    let n : Reasons m c.in_ok-tops.tops.items c.tops.new.unknown.items None =
    subst (λ (o : Option Counted). Reasons m c.in_ok-tops.tops.items c.tops.new.unknown.items o) c.in-None.is r in
    no_candidate m d (sym c.is_candidate.ensures ∙ c.if-is_candidate.false) c.in_ok-tops.tops.items n.are n.best t

pub returns-clause-slot : goal.returns-clause-slot
returns-clause-slot g c =
    let m : Machine = c.args.replica.now.machine in
    let d : IsDocument m.doc = document c.args.replica.now c.entries.ensures.replica in
    none_best m d (returns-clause-none g c refl)
