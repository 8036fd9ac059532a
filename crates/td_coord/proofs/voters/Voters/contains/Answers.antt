use Rattle.std.proofs.Common.{◌==◌, ◌∙◌, ℕ, take, ap}
use Rattle.std.specs.List.{list_any}
use Rattle.td_coord.proofs.Reversed.{is_among}
use Rattle.td_coord.proofs.voters.Voters.contains.Goals as goal

pub returns : goal.returns
returns c =
    c.contains.ensures.value ∙ is_among c.args.site (take c.self.inside.count c.self.inside.sites)
    ∙ ap (list_any (λ (other : ℕ). c.args.site == other)) c.self.view_is
