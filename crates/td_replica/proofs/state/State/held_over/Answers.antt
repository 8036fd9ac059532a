use Rattle.std.proofs.Common.{sym, subst}
use Rattle.td_vote.specs.ByPlace.{AreHeldApart}
use Rattle.td_replica.specs.Parts.{StateValue}
use Rattle.td_replica.proofs.state.State.held_over.Goals as goal

pub held_over-requires : goal.held_over-requires
held_over-requires g c = record {
  apart = subst (λ (s : StateValue). AreHeldApart s.machine.doc s.machine.holds) (sym c.self.view_is) c.requires;
  order = c.self.invariant.kept.order;
}
