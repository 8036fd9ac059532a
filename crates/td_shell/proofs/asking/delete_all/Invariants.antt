use Rattle.std.proofs.Common.{◌≡◌, ◌-◌, false}
use Rattle.td_journal.specs.Seen.{is_closed, replica_of}
use Rattle.td_report.specs.Asking.{deletes}
use Rattle.td_shell.specs.Asking.{ask_all, done_before}
use Rattle.td_shell.specs.Staging.{IsStaged}
use Rattle.td_shell.proofs.asking.delete_all.Given as goal

abbrev pub invariant-loop-done : goal.invariant-loop-done
invariant-loop-done g l = record {
  shut : is_closed l.kept ≡ false;
  staged : IsStaged l.fn.kept l.kept;
  asked : ask_all (deletes l.index l.count) (replica_of l.fn.kept)
      ≡ done_before l.done (ask_all (deletes l.index (l.count - l.done)) (replica_of l.kept));
}
