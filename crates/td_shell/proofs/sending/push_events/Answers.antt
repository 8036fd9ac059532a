use Rattle.std.proofs.Common.{◌≡◌, ◌++◌, ◌∙◌, sym, rules}
use Rattle.td_report.specs.Replies.{event_line}
use Rattle.td_shell.proofs.Told.{event_more}
use Rattle.td_shell.proofs.sending.push_events.Goals as goal

pub loop-number-preserved : goal.loop-number-preserved
loop-number-preserved g c =
    let more : c.push.new.self ≡ c.loop-number.text ++ event_line c.message-message.result = search rules in
    sym (event_more c.args.replica.now.machine.sent c.loop-number.number c.message-message.result c.loop-number.text
    c.push.new.self c.message-message.ensures more)
    ∙ c.loop-number.invariant
