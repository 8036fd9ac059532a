use Rattle.std.proofs.Common.{◌≡◌, ◌++◌, map, take}
use Rattle.td_trace.specs.Entries.{traced}
use Rattle.td_report.specs.Trace.{all_written, entry_said, numbered}
use Rattle.td_report.proofs.trace.push_entries.Given as goal

abbrev pub invariant-loop-k : goal.invariant-loop-k
invariant-loop-k g l = l.lines ≡ l.fn.lines ++ all_written
    (numbered entry_said 1 (map traced (take l.k l.replica.entries)))
