use Rattle.std.proofs.Common.{◌<◌, length, arith}
use Rattle.td_report.specs.Trace.{log_said}
use Rattle.td_live.proofs.Telling.{behind, found}
use Rattle.td_live.proofs.printing.push_editors.Goals as goal

pub loop-place-preserved : goal.loop-place-preserved
loop-place-preserved c =
    let less : c.loop-place.place < length c.args.logs.now = omega (arith, c.loop-place-test.true) in
    behind log_said c.args.bytes.now c.loop-place.bytes c.push_editor.new.bytes c.args.logs.now c.loop-place.place
    c.index-logs-place.result
    (found c.args.logs.now c.loop-place.place c.index-logs-place.result c.index-logs-place.result less
    c.index-logs-place.is)
    c.loop-place.invariant c.in_ok-push_editor.ensures
