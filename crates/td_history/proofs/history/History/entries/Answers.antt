use Rattle.std.proofs.Common.{◌∙◌, length, ap}
use Rattle.td_history.proofs.Standing.{stand_length}
use Rattle.td_history.proofs.history.History.entries.Goals as goal

pub returns : goal.returns
returns c = c.len.ensures ∙ (stand_length _ _ _ c.self.invariant.entering ∙ ap (λ v. length v.entries) c.self.view_is)
