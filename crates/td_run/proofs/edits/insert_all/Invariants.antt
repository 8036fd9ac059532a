use Rattle.std.proofs.Common.{◌≡◌, ◌+◌, length}
use Rattle.td_world.specs.World.{size}
use Rattle.td_report.specs.Asking.{inserts}
use Rattle.td_run.specs.Asking.{ask_all, done_before}
use Rattle.td_run.proofs.edits.insert_all.Given as goal

abbrev pub invariant-loop-atom : goal.invariant-loop-atom
invariant-loop-atom g l = record {
  can : (goal.iterator-loop-atom g).can_next l.atom-iterator;
  ends : (goal.iterator-loop-atom g).is_finite l.atom-iterator;
  same : size l.world ≡ size l.fn.world;
  asked : ask_all l.site (inserts l.fn.index l.atoms) l.fn.world
      ≡ done_before l.done (ask_all l.site (inserts l.index l.atom-iterator) l.world);
  counted : l.done + length l.atom-iterator ≡ length l.atoms;
}
