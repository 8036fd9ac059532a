use Rattle.std.proofs.Common.{◌≡◌, ◌≤◌, ◌-◌, ℕ, List, length, take}
use Rattle.td_disk.specs.Moments.{LeavesOnly}
use Rattle.td_journal.proofs.opening.read_whole.Given as goal

abbrev pub invariant-loop-bytes : goal.invariant-loop-bytes
invariant-loop-bytes g l = record {
  front : l.bytes ≡ take (length l.bytes) (g.K.Disk.reads l.fn.disk);
  within : length l.bytes ≤ length (g.K.Disk.reads l.fn.disk);
  same : l.disk ≡ l.fn.disk;
  reads : g.K.Disk.reads l.disk ≡ g.K.Disk.reads l.fn.disk;
  sound : g.K.Disk.is_sound l.disk ≡ g.K.Disk.is_sound l.fn.disk;
  crash : (c : List ℕ) → g.K.Disk.leaves l.disk c → g.K.Disk.leaves l.fn.disk c;
  only : LeavesOnly g.K.Disk l.fn.disk l.disk (g.K.Disk.leaves l.fn.disk);
  faults : g.K.Disk.faults l.fn.disk ≤ g.K.Disk.faults l.disk;
}

abbrev pub decreases-loop-bytes : goal.decreases-loop-bytes
decreases-loop-bytes g l = length (g.K.Disk.reads l.fn.disk) - length l.bytes
