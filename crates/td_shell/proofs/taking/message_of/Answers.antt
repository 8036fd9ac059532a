use Rattle.std.proofs.Common.{sym}
use Rattle.td_shell.proofs.Packets.{none_read, read}
use Rattle.td_shell.proofs.taking.message_of.Goals as goal

pub returns-in-Ok : goal.returns-in-Ok
returns-in-Ok c = sym (read c.in-Ok.message c.args.packet.now c.in-Ok.ensures.found)

pub returns-in-Err : goal.returns-in-Err
returns-in-Err c = sym (none_read c.args.packet.now c.in-Err.ensures.malformed)
