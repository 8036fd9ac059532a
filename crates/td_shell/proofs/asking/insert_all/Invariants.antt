use Rattle.std.proofs.Common.{◌≡◌, ◌+◌, false, length}
use Rattle.td_journal.specs.Seen.{is_closed, replica_of}
use Rattle.td_report.specs.Asking.{inserts}
use Rattle.td_shell.specs.Asking.{ask_all, done_before}
use Rattle.td_shell.specs.Staging.{IsStaged}
use Rattle.td_shell.proofs.asking.insert_all.Given as goal

abbrev pub invariant-loop-atom : goal.invariant-loop-atom
invariant-loop-atom g l = record {
  can : (goal.iterator-loop-atom g).can_next l.atom-iterator;
  ends : (goal.iterator-loop-atom g).is_finite l.atom-iterator;
  shut : is_closed l.kept ≡ false;
  staged : IsStaged l.fn.kept l.kept;
  asked : ask_all (inserts l.fn.index l.atoms) (replica_of l.fn.kept)
      ≡ done_before l.done (ask_all (inserts l.index l.atom-iterator) (replica_of l.kept));
  counted : l.done + length l.atom-iterator ≡ length l.atoms;
}
