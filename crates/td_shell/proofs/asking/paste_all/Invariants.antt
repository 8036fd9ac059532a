use Rattle.std.proofs.Common.{◌≡◌, ◌+◌, false, List, ℕ, length}
use Rattle.std.specs.List.{flat_map}
use Rattle.td_journal.specs.Seen.{is_closed, replica_of}
use Rattle.td_report.specs.Asking.{pastes}
use Rattle.td_shell.specs.Asking.{ask_all, done_before}
use Rattle.td_shell.specs.Staging.{IsStaged}
use Rattle.td_text.specs.Runs.{runs_of}
use Rattle.td_shell.proofs.asking.paste_all.Given as goal

abbrev pub invariant-loop-run : goal.invariant-loop-run
invariant-loop-run g l = record {
  can : (goal.iterator-loop-run g).can_next l.run-iterator;
  ends : (goal.iterator-loop-run g).is_finite l.run-iterator;
  shut : is_closed l.kept ≡ false;
  staged : IsStaged l.fn.kept l.kept;
  asked : ask_all (pastes l.fn.index (runs_of l.atoms)) (replica_of l.fn.kept)
      ≡ done_before l.done (ask_all (pastes l.index l.run-iterator) (replica_of l.kept));
  counted : l.done + length (flat_map (λ (run : List (List ℕ)). run) l.run-iterator) ≡ length l.atoms;
}
