use Rattle.std.proofs.Common.{◌≡◌, ◌-◌}
use Rattle.td_world.specs.World.{size}
use Rattle.td_report.specs.Asking.{deletes}
use Rattle.td_run.specs.Asking.{ask_all, done_before}
use Rattle.td_run.proofs.edits.delete_all.Given as goal

abbrev pub invariant-loop-done : goal.invariant-loop-done
invariant-loop-done g l = record {
  same : size l.world ≡ size l.fn.world;
  asked : ask_all l.site (deletes l.index l.count) l.fn.world
      ≡ done_before l.done (ask_all l.site (deletes l.index (l.count - l.done)) l.world);
}
