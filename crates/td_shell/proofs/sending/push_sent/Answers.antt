use Rattle.std.proofs.Common.{◌≡◌, ◌+◌, ◌++◌, ◌∙◌, sym, rules}
use Rattle.td_shell.specs.Sending.{send_line}
use Rattle.td_shell.proofs.Told.{sent_more}
use Rattle.td_shell.proofs.sending.push_sent.Goals as goal

pub loop-number-preserved : goal.loop-number-preserved
loop-number-preserved g c =
    let more : c.push_send.new.text
    ≡ c.loop-number.text ++ send_line (c.loop-number.number + 1) c.message-message.result = search rules in
    sym (sent_more c.args.replica.now.machine.sent c.loop-number.number c.message-message.result c.loop-number.text
    c.push_send.new.text c.message-message.ensures more)
    ∙ c.loop-number.invariant
