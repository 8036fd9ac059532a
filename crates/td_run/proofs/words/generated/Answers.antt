use Rattle.std.proofs.Common.{sym, ◌∙◌}
use Rattle.td_run.specs.declared.words.Form.TheVariants.{Gen}
use Rattle.td_run.proofs.GenWords.{too_great}
use Rattle.td_run.proofs.words.generated.Goals as goal

pub returns-clause-none : goal.returns-clause-none
returns-clause-none c =
    too_great c.args.word.now c.args.size.now c.args.number.now c.in_ok-size.size
    (Gen c.in_ok-size.size c.in_ok-number.number)
    c.then_some.result c.then_some.ensures c.in_ok-size.ensures.some.0
    (sym c.as_slice.ensures ∙ c.in_ok-size.ensures.some.1)
