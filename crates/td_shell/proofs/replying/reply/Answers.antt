use Rattle.std.proofs.Common.{subst}
use Rattle.td_script.specs.ShellFaults.{IsFitToPaste}
use Rattle.td_shell.proofs.replying.reply.Goals as goal

pub paste-requires-clause-each : goal.paste-requires-clause-each
paste-requires-clause-each g c = subst IsFitToPaste c.in-Paste.is c.requires.fit
