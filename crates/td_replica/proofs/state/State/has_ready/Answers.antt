use Rattle.std.proofs.Common.{List, length, is_some, sym, ap, ◌∙◌, subst}
use Rattle.td_op.specs.Op.{OpValue}
use Rattle.td_machine.specs.Ready.{next_ready}
use Rattle.td_causal.specs.Waiting.{ops_waiting, AreStored}
use Rattle.td_replica.specs.Parts.{StateValue}
use Rattle.td_replica.proofs.state.State.has_ready.Goals as goal

pub has_ready-requires : goal.has_ready-requires
has_ready-requires g c =
    subst (λ (ops : List OpValue). AreStored (length c.self.inside.have) ops c.self.inside.waiting)
    (sym c.ops.ensures) c.self.invariant.stored

pub returns : goal.returns
returns g c =
    c.has_ready.ensures
    ∙ ap (λ (ops : List OpValue). is_some (next_ready c.self.inside.have (ops_waiting ops c.self.inside.waiting)))
    c.ops.ensures
    ∙ ap (λ (s : StateValue). is_some (next_ready s.machine.have s.machine.waiting)) c.self.view_is
