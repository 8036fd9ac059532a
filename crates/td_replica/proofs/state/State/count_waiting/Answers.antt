use Rattle.std.proofs.Common.{length, ap, ◌∙◌}
use Rattle.td_replica.specs.Parts.{StateValue}
use Rattle.td_replica.proofs.Noting.{stored_length}
use Rattle.td_replica.proofs.state.State.count_waiting.Goals as goal

pub returns : goal.returns
returns g c =
    c.len.ensures
    ∙ stored_length (length c.self.inside.have) c.self.inside.past.ops c.self.inside.waiting c.self.invariant.stored
    ∙ ap (λ (s : StateValue). length s.machine.waiting) c.self.view_is
