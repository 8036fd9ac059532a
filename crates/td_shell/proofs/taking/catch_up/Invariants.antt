use Rattle.std.proofs.Common.{◌≡◌, ◌-◌, false}
use Rattle.td_journal.specs.Seen.{is_closed, replica_of}
use Rattle.td_shell.specs.Staging.{IsStaged}
use Rattle.td_shell.specs.Taking.{catch_up, nexts}
use Rattle.td_shell.proofs.Going.{went_before}
use Rattle.td_shell.proofs.taking.catch_up.Given as goal

abbrev pub invariant-loop-count : goal.invariant-loop-count
invariant-loop-count g l = record {
  shut : is_closed l.kept ≡ false;
  staged : IsStaged l.fn.kept l.kept;
  went : catch_up (replica_of l.fn.kept)
      ≡ went_before l.count (nexts (l.waiting - l.count) (replica_of l.kept));
}
