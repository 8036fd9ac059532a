use Rattle.std.proofs.Common.{◌∙◌, ap}
use Rattle.std.specs.List.{slice_get}
use Rattle.td_history.proofs.Standing.{stand_get}
use Rattle.td_history.proofs.history.History.entry_at.Goals as goal

pub returns : goal.returns
returns c = c.get.ensures ∙ (stand_get _ _ _ c.args.i c.self.invariant.entering
    ∙ ap (λ v. slice_get v.entries c.args.i) c.self.view_is)
