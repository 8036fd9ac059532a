use Rattle.std.proofs.Common.{sym, subst}
use Rattle.td_vote.specs.ByPlace.{AreHeldApart}
use Rattle.td_replica.specs.Parts.{StateValue}
use Rattle.td_replica.proofs.state.State.put_in.Goals as goal

pub held_slot-requires : goal.held_slot-requires
held_slot-requires g c = record {
  apart = subst (λ (s : StateValue). AreHeldApart s.machine.doc s.machine.holds) (sym c.self.view_is) c.requires.held;
  order = c.self.invariant.kept.order;
}
