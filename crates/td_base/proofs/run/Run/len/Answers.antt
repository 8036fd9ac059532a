use Rattle.std.proofs.Common.{ap, ◌∙◌, length}
use Rattle.td_base.proofs.run.Run.len.Goals as goal
use Rattle.td_base.proofs.RunLemmas.{count_ends}

pub returns-clause-len : goal.returns-clause-len
returns-clause-len c = rw (c.self.invariant.ends_again) (count_ends _ ∙ ap length c.self.view_is)
