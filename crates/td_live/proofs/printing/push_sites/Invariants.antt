use Rattle.std.proofs.Common.{◌≡◌, ◌++◌, take}
use Rattle.td_report.specs.Trace.{all_written, history_said, numbered}
use Rattle.td_trace.specs.Entries.{traced_family}
use Rattle.td_world.specs.World.{family_of}
use Rattle.td_live.proofs.printing.push_sites.Given as goal

abbrev pub invariant-loop-place : goal.invariant-loop-place
invariant-loop-place g l =
    l.bytes ≡ l.fn.bytes ++ all_written (numbered history_said 1 (take l.place (traced_family (family_of l.world))))
