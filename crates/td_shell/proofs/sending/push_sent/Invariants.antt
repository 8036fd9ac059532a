use Rattle.std.proofs.Common.{◌≡◌, ◌++◌}
use Rattle.td_shell.specs.Sending.{sent_behind}
use Rattle.td_shell.proofs.sending.push_sent.Given as goal

abbrev pub invariant-loop-number : goal.invariant-loop-number
invariant-loop-number g l =
    l.text ++ sent_behind l.number l.replica.machine.sent
    ≡ l.fn.text ++ sent_behind l.before l.replica.machine.sent
