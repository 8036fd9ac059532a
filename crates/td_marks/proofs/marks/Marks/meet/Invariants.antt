use Rattle.std.proofs.Common.{◌≡◌, ◌≤◌, length, take}
use Rattle.td_marks.specs.Taking.{after_takes}
use Rattle.td_marks.proofs.marks.Marks.meet.Given as goal

abbrev pub invariant-loop-place : goal.invariant-loop-place
invariant-loop-place l = record {
  taken : l.self ≡ after_takes (take l.place l.other.ops) l.fn.self;
  within : l.place ≤ length l.other.ops;
}
