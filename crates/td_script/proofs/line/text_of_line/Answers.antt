use Rattle.std.proofs.Common.{sym, ◌∙◌}
use Rattle.td_script.proofs.LineLaws.{text_found, text_not_found}
use Rattle.td_script.proofs.line.text_of_line.Goals as goal

pub returns-clause-some : goal.returns-clause-some
returns-clause-some c =
    rw c.ok.ensures.value
    (text_found c.args.line.now c.from_utf8.result _ c.from_utf8.ensures.cases
    (sym c.has_control.ensures ∙ c.if-has_control.false))

pub returns-clause-none : goal.returns-clause-none
returns-clause-none c = rw c.ok.ensures.value
    (text_not_found c.args.line.now c.from_utf8.result _ c.from_utf8.ensures.cases)
