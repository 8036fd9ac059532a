use Rattle.td_shell.proofs.Packets.{read, spelled_so}
use Rattle.td_shell.proofs.taking.packets_are_read.Goals as goal

pub returns-clause-spelled : goal.returns-clause-spelled
returns-clause-spelled c = read

pub returns-clause-only : goal.returns-clause-only
returns-clause-only c = spelled_so
