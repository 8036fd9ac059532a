use Rattle.td_live.specs.Desks.{LaterDesk}
use Rattle.td_live.proofs.working.run_desk.Given as goal

abbrev pub invariant-loop : goal.invariant-loop
invariant-loop g l = LaterDesk l.fn.desk l.desk
