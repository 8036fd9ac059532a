use Rattle.std.proofs.Common.{◌≤◌, drop}
use Rattle.td_run.proofs.UnderWay.{IsUnderWay}
use Rattle.td_run.proofs.play.play.Given as goal

abbrev pub invariant-loop-command : goal.invariant-loop-command
invariant-loop-command g l = record {
  way : IsUnderWay l.script.sites l.commands (drop l.command-index l.commands) (g.K.Sink.held l.fn.sink)
      (g.K.Sink.held l.sink)
      l.player;
  count : g.K.Sink.faults l.fn.sink ≤ g.K.Sink.faults l.sink;
}
