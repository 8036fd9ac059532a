use Rattle.std.proofs.Common.{sym, subst}
use Rattle.td_vote.specs.ByPlace.{AreHeldApart}
use Rattle.td_replica.specs.Parts.{StateValue}
use Rattle.td_replica.proofs.state.State.delete.Goals as goal

pub held_row-requires : goal.held_row-requires
held_row-requires g c = record {
  apart = subst (λ (s : StateValue). AreHeldApart s.machine.doc s.machine.holds) (sym c.self.view_is) c.requires.held;
  order = c.self.invariant.kept.order;
}
