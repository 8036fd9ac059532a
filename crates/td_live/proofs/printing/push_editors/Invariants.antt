use Rattle.std.proofs.Common.{◌≡◌, ◌++◌, take}
use Rattle.td_report.specs.Trace.{all_written, log_said, numbered}
use Rattle.td_live.proofs.printing.push_editors.Given as goal

abbrev pub invariant-loop-place : goal.invariant-loop-place
invariant-loop-place l = l.bytes ≡ l.fn.bytes ++ all_written (numbered log_said 1 (take l.place l.logs))
