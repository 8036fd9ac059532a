use Rattle.std.proofs.Common.{◌≡◌, length}
use Rattle.td_idle.specs.Stable.{stable_upto}
use Rattle.td_idle.proofs.stability.stable.Given as goal

abbrev pub invariant-loop-place : goal.invariant-loop-place
invariant-loop-place g l = record {
  end : l.place-end ≡ l.replica.machine.size;
  met : l.all ≡ stable_upto l.replica.machine l.place;
  size : length l.all ≡ l.replica.machine.size;
}
