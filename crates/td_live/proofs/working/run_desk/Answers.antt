use Rattle.td_live.proofs.Turns.{later_self, later_then}
use Rattle.td_live.proofs.working.run_desk.Goals as goal

pub loop-init : goal.loop-init
loop-init g c = later_self c.args.desk.now

pub loop-preserved : goal.loop-preserved
loop-preserved g c = later_then c.args.desk.now c.loop.desk c.turn.new.self c.loop.invariant c.turn.ensures.later
