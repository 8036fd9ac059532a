use Rattle.std.proofs.Common.{◌≡◌, length}
use Rattle.td_idle.proofs.Meets.{met_to}
use Rattle.td_idle.proofs.stability.meet.Given as goal

abbrev pub invariant-loop-place : goal.invariant-loop-place
invariant-loop-place l = record {
  end : l.place-end ≡ length l.initial.all;
  met : l.all ≡ met_to l.place l.initial.all l.other;
}
