use Rattle.std.proofs.Common.{ap, sym, ◌∙◌}
use Rattle.td_machine.specs.Decision.{count_open}
use Rattle.td_coord.specs.Tally.{TallyValue}
use Rattle.td_coord.proofs.Kept.{count_reversed}
use Rattle.td_coord.proofs.tally.Tally.undecided.Goals as goal

pub returns : goal.returns
returns c =
    c.self.invariant.open_count ∙ sym (count_reversed c.self.inside.ballots.items)
    ∙ ap (λ (t : TallyValue). count_open t.ballots) c.self.view_is
