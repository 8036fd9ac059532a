use Rattle.std.proofs.Common.{◌≡◌, ◌+◌, List, ℕ, length}
use Rattle.std.specs.List.{flat_map}
use Rattle.td_world.specs.World.{size}
use Rattle.td_report.specs.Asking.{pastes}
use Rattle.td_run.specs.Asking.{ask_all, done_before}
use Rattle.td_text.specs.Runs.{runs_of}
use Rattle.td_run.proofs.edits.paste_all.Given as goal

abbrev pub invariant-loop-run : goal.invariant-loop-run
invariant-loop-run g l = record {
  can : (goal.iterator-loop-run g).can_next l.run-iterator;
  ends : (goal.iterator-loop-run g).is_finite l.run-iterator;
  same : size l.world ≡ size l.fn.world;
  asked : ask_all l.site (pastes l.fn.index (runs_of l.atoms)) l.fn.world
      ≡ done_before l.done (ask_all l.site (pastes l.index l.run-iterator) l.world);
  counted : l.done + length (flat_map (λ (run : List (List ℕ)). run) l.run-iterator) ≡ length l.atoms;
}
