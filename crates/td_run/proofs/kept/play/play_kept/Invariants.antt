use Rattle.std.proofs.Common.{◌≡◌}
use Rattle.td_world.specs.World.{new_world, size}
use Rattle.td_run.specs.Printing.{own_text, taken_text}
use Rattle.td_run.proofs.KeptPlayed.{IsUnderWay}
use Rattle.td_run.proofs.kept.play.play_kept.Given as goal

abbrev pub invariant-loop-command : goal.invariant-loop-command
invariant-loop-command g l = record {
  same : size l.player.world ≡ l.script.sites;
  own : IsUnderWay own_text l.script.commands (new_world l.script.sites) l.command-index l.player;
  taken : IsUnderWay taken_text l.script.commands (new_world l.script.sites) l.command-index l.player;
}
