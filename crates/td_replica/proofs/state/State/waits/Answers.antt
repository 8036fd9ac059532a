use Rattle.std.proofs.Common.{length, ap, ◌∙◌}
use Rattle.td_machine.specs.Ready.{waits}
use Rattle.td_causal.proofs.Kept.{kept_waits}
use Rattle.td_replica.specs.Parts.{StateValue}
use Rattle.td_replica.proofs.state.State.waits.Goals as goal

pub returns : goal.returns
returns g c =
    c.waits.ensures
    ∙ kept_waits (length c.self.inside.have) c.self.inside.past.ops c.args.dot c.self.inside.waiting
    c.self.invariant.stored
    ∙ ap (λ (s : StateValue). waits c.args.dot s.machine.waiting) c.self.view_is
