use Rattle.td_check.proofs.LooksSeen.{looks_first}
use Rattle.td_check.proofs.looks.Looks.of.Goals as goal

pub returns : goal.returns
returns c = λ text_at.
    looks_first c.args.trace.now text_at (record { due = c.in_ok-due_of.field-0; found = c.new.result })
    c.in_ok-due_of.ensures c.new.ensures.empty
