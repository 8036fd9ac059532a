use Rattle.std.proofs.Common.{List, ap, sym, subst, ◌∙◌}
use Rattle.td_machine.specs.Machine.{Machine}
use Rattle.td_check.specs.Seated.{AreSeated}
use Rattle.td_check.specs.ReplayParts.{IsReplayParts}
use Rattle.td_check.specs.Sites.{ReplayValue, states_of}
use Rattle.td_check.proofs.Placing.{seated}
use Rattle.td_check.proofs.replay.Replay.seats.Goals as goal

pub returns : goal.returns
returns g c =
    let made = c.self.inside.made in
    let r : ReplayValue = c.args.self.now in
    let parts : IsReplayParts made r = subst (λ (q : ReplayValue). IsReplayParts made q) c.self.view_is
    c.self.invariant in
    subst (λ (machines : List Machine). AreSeated r.trace.sites (states_of r) machines)
    (ap (λ (q : ReplayValue). q.machines) (sym c.self.view_is) ∙ sym c.deref.ensures.value) (seated made r parts)
