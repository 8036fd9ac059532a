use Rattle.std.proofs.Common.{◌≡◌, take}
use Rattle.td_disk.specs.Events.{replay}
use Rattle.td_disk.specs.Record.{events_of}
use Rattle.td_disk.proofs.record.write_all.Given as goal

abbrev pub invariant-loop-call : goal.invariant-loop-call
invariant-loop-call l = l.file.items ≡ (replay l.fn.file.items (events_of (take l.call-index l.calls))).reads
