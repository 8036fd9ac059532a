use Rattle.td_live.proofs.Agendas.{count_pasted}
use Rattle.td_live.proofs.line_calls.LineCalls.of.Goals as goal

pub returns-in-Paste-clause-count : goal.returns-in-Paste-clause-count
returns-in-Paste-clause-count c =
    rw c.in-Paste.is (count_pasted c.in-Paste.index c.in-Paste.atoms c.into_atoms-in-Paste.ensures.each)
