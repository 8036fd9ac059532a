use Rattle.std.proofs.Common.{subst}
use Rattle.td_script.specs.declared.command.Command.{Command}
use Rattle.td_world.specs.World.{size}
use Rattle.td_run.specs.Sites.{MayStand}
use Rattle.td_run.proofs.play.perform.Goals as goal

pub paste-requires-clause-each : goal.paste-requires-clause-each
paste-requires-clause-each g c =
    (subst (λ (command : Command). MayStand (size c.args.player.now.world) command) c.in-Paste.is c.requires.stands).1
