use Rattle.td_check.proofs.DeedsJudged.{look_judged}
use Rattle.td_check.proofs.deeds.Done.goes_on.Goals as goal

pub returns-then-looks_on-clause-is : goal.returns-then-looks_on-clause-is
returns-then-looks_on-clause-is c = λ text_at a.
    look_judged c.args.trace.now text_at c.args.looks.now c.args.editor c.args.index c.args.home c.in-Look.calls
    c.in-Look.upto c.in-Look.text c.args.did.now c.args.self.now c.is_true-is_true.result c.in-Look.is a c.requires.home
    c.requires.did (c.looks_on.ensures.is.0 c.if-looks_on.true) c.is_true-is_true.ensures
