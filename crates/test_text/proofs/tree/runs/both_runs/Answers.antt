use Rattle.std.proofs.Common.{List, sym, subst, arith}
use Rattle.td_doc.specs.Document.{DocRow}
use Rattle.td_doc.specs.Answers.{IsFresh}
use Rattle.td_doc.proofs.FreshDots.{later}
use Rattle.test_text.proofs.tree.runs.both_runs.Goals as goal

pub put_run-requires-2 : goal.put_run-requires-2
put_run-requires-2 g c =
    let first = c.in_ok-first.first in
    let second = c.in_ok-second.second in
    c.put_run.ensures second (later first second 1 2 c.in_ok-first.ensures c.in_ok-second.ensures (omega arith))
    (subst (λ (rows : List DocRow). IsFresh rows second) (sym c.in_ok-doc.ensures) tt)
