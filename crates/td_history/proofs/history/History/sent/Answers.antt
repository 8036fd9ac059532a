use Rattle.std.proofs.Common.{◌∙◌, length, ap}
use Rattle.td_history.proofs.Standing.{stand_length}
use Rattle.td_history.proofs.history.History.sent.Goals as goal

pub returns : goal.returns
returns c =
    c.len.ensures ∙ (stand_length _ _ _ c.self.invariant.sending ∙ ap (λ v. length v.sent) c.self.view_is)
