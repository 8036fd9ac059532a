use Rattle.std.proofs.Common.{◌∙◌, List, nat_eq, ap, sym}
use Rattle.std.specs.List.{list_all}
use Rattle.td_path.specs.declared.slot.Slot.{Slot}
use Rattle.td_doc.specs.Document.{DocRow}
use Rattle.td_machine.specs.Machine.{Machine}
use Rattle.td_idle.specs.Best.{row_count}
use Rattle.td_idle.specs.Certificate.{is_top}
use Rattle.td_idle.proofs.Replicas.{document}
use Rattle.td_idle.proofs.Certifying.{no_candidate_there, other_count, bad_top, all_but_rows}
use Rattle.td_idle.proofs.conditions.check.Goals as goal

pub are_covered-requires-clause-document : goal.are_covered-requires-clause-document
are_covered-requires-clause-document g c = document c.args.replica.now c.entries.ensures.replica

pub returns-then-not-is_candidate : goal.returns-then-not-is_candidate
returns-then-not-is_candidate g c =
    no_candidate_there c.args.replica.now.machine c.args.idle.now
    (sym c.is_candidate.ensures ∙ c.if-not-is_candidate.true)

pub returns-then-not-has_rows : goal.returns-then-not-has_rows
returns-then-not-has_rows g c =
    let m : Machine = c.args.replica.now.machine in
    let n = c.has_rows.ensures ∙ ap (λ (rows : List DocRow). nat_eq (row_count rows c.args.idle.now.slot)
    c.args.idle.now.rows) c.doc.ensures in
    other_count m c.args.idle.now (sym c.is_candidate.ensures ∙ c.if-not-is_candidate.false)
    (sym n ∙ c.if-not-has_rows.true)

pub returns-then-not-are_tops : goal.returns-then-not-are_tops
returns-then-not-are_tops g c =
    let m : Machine = c.args.replica.now.machine in
    let n = c.has_rows.ensures ∙ ap (λ (rows : List DocRow). nat_eq (row_count rows c.args.idle.now.slot)
    c.args.idle.now.rows) c.doc.ensures in
    let t = c.are_tops.ensures ∙ ap (λ (ts : List Slot). list_all (is_top m c.args.idle.now.slot) ts)
    c.deref.ensures.value in
    bad_top m c.args.idle.now (sym c.is_candidate.ensures ∙ c.if-not-is_candidate.false)
    (sym n ∙ c.if-not-has_rows.false)
    (sym t ∙ c.if-not-are_tops.true)

pub returns : goal.returns
returns g c =
    let m : Machine = c.args.replica.now.machine in
    let n = c.has_rows.ensures ∙ ap (λ (rows : List DocRow). nat_eq (row_count rows c.args.idle.now.slot)
    c.args.idle.now.rows) c.doc.ensures in
    let t = c.are_tops.ensures ∙ ap (λ (ts : List Slot). list_all (is_top m c.args.idle.now.slot) ts)
    c.deref.ensures.value in
    all_but_rows m c.args.idle.now (sym c.is_candidate.ensures ∙ c.if-not-is_candidate.false)
    (sym n ∙ c.if-not-has_rows.false)
    (sym t ∙ c.if-not-are_tops.false) c.are_covered.result c.are_covered.ensures
