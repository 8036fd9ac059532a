use Rattle.std.proofs.Common.{◌≡◌, List, Some, length, sym, ap, ◌∙◌, subst}
use Rattle.std.specs.Prelude.{IfSome, slice_get}
use Rattle.td_op.specs.Op.{OpValue}
use Rattle.td_machine.specs.Ready.{next_ready}
use Rattle.td_causal.specs.Waiting.{ops_waiting, AreStored}
use Rattle.td_replica.specs.Parts.{StateValue}
use Rattle.td_replica.proofs.state.State.next_waiting.Goals as goal

pub next_ready-requires : goal.next_ready-requires
next_ready-requires g c =
    subst (λ (ops : List OpValue). AreStored (length c.self.inside.have) ops c.self.inside.waiting)
    (sym c.ops.ensures) c.self.invariant.stored

pub returns-clause-least : goal.returns-clause-least
returns-clause-least g c =
    c.next_ready.ensures.least
    ∙ ap (λ (ops : List OpValue). next_ready c.self.inside.have (ops_waiting ops c.self.inside.waiting))
    c.ops.ensures
    ∙ ap (λ (s : StateValue). next_ready s.machine.have s.machine.waiting) c.self.view_is

pub returns-clause-stored : goal.returns-clause-stored
returns-clause-stored g c =
    subst (λ (ops : List OpValue). IfSome c.next_ready.result (λ w. slice_get ops w.number ≡ Some w.op))
    (c.ops.ensures ∙ ap (λ (s : StateValue). s.ops) c.self.view_is) c.next_ready.ensures.stored
