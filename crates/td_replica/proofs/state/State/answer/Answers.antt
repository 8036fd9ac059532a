use Rattle.td_replica.proofs.state.State.answer.Goals as goal

pub hold-requires-clause-may : goal.hold-requires-clause-may
hold-requires-clause-may g c = c.requires.may c.if-yes.true
