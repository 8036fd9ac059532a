use Rattle.std.proofs.Common.{◌≡◌, take}
use Rattle.td_disk.specs.Record.{events_of, writes_of}
use Rattle.td_disk.specs.Image.{filled}
use Rattle.td_disk.proofs.record.fill_all.Given as goal

abbrev pub invariant-loop-call : goal.invariant-loop-call
invariant-loop-call l = l.file.items ≡ filled l.byte (writes_of (events_of (take l.call-index l.calls))) l.fn.file.items
