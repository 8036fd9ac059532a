use Rattle.std.proofs.Common.{List, sym, subst, arith}
use Rattle.td_doc.specs.Document.{DocRow}
use Rattle.td_doc.specs.Answers.{IsFresh}
use Rattle.td_doc.proofs.FreshDots.{later}
use Rattle.test_text.proofs.doc.runs.both_runs.Goals as goal

pub put_run-requires : goal.put_run-requires
put_run-requires g c = subst (λ (rows : List DocRow). IsFresh rows c.in_ok-first.first) (sym c.requires) tt

pub put_run-requires-2 : goal.put_run-requires-2
put_run-requires-2 g c =
    let first = c.in_ok-first.first in
    let second = c.in_ok-second.second in
    c.put_run.ensures second (later first second 1 2 c.in_ok-first.ensures c.in_ok-second.ensures (omega arith))
    (subst (λ (rows : List DocRow). IsFresh rows second) (sym c.requires) tt)

pub put_run-requires-3 : goal.put_run-requires-3
put_run-requires-3 g c =
    let first = c.in_ok-first.first in
    let second = c.in_ok-second.second in
    let third = c.in_ok-third.third in
    c.put_run-2.ensures third (later second third 2 3 c.in_ok-second.ensures c.in_ok-third.ensures (omega arith))
    (c.put_run.ensures third (later first third 1 3 c.in_ok-first.ensures c.in_ok-third.ensures (omega arith))
    (subst (λ (rows : List DocRow). IsFresh rows third) (sym c.requires) tt))
