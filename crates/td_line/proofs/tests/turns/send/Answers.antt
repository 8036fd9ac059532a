use Rattle.std.proofs.Common.{◌<◌, arith}
use Rattle.td_line.proofs.Editing.{with_ask_is, later_ask}
use Rattle.td_line.proofs.tests.turns.send.Goals as goal

pub invariant_of-editor : goal.invariant_of-editor
invariant_of-editor g c =
    let less : c.editor.inside.made < c.editor.inside.calls = omega arith in
    rw c.in-Ok.ensures.sent (with_ask_is _ c.args.request c.editor.invariant.0 less, c.editor.invariant.1)

pub returns-in-Ok : goal.returns-in-Ok
returns-in-Ok g c = rw (← c.editor.view_is, c.in-Ok.ensures.sent) (later_ask _ c.args.request)
