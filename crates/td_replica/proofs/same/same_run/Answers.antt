use Rattle.std.proofs.Common.{◌∙◌, sym}
use Rattle.td_base.proofs.SameRuns.{same_run}
use Rattle.td_replica.proofs.same.same_run.Goals as goal

pub returns : goal.returns
returns c = λ h. same_run _ _ c.len.ensures.run c.len-2.ensures.run (sym c.eq.ensures ∙ h)
