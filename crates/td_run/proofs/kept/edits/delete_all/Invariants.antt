use Rattle.std.proofs.Common.{◌≡◌, ◌-◌}
use Rattle.td_world.specs.World.{size}
use Rattle.td_report.specs.Asking.{deletes}
use Rattle.td_run.specs.KeptAsking.{ask_kept, done_before_kept}
use Rattle.td_run.proofs.kept.edits.delete_all.Given as goal

abbrev pub invariant-loop-done : goal.invariant-loop-done
invariant-loop-done g l = record {
  same : size l.world.world ≡ size l.fn.world.world;
  asked : ask_kept l.site (deletes l.index l.count) l.fn.world.world
      ≡ done_before_kept l.done (ask_kept l.site (deletes l.index (l.count - l.done)) l.world.world);
}
