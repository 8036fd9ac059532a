use Rattle.std.proofs.Common.{◌≡◌, ◌++◌, take}
use Rattle.td_report.specs.Trace.{all_written, text_said, numbered}
use Rattle.td_live.specs.Printing.{texts_of}
use Rattle.td_live.proofs.printing.push_texts.Given as goal

abbrev pub invariant-loop-place : goal.invariant-loop-place
invariant-loop-place g l =
    l.bytes ≡ l.fn.bytes ++ all_written (numbered text_said 1 (take l.place (texts_of l.world.replicas)))
