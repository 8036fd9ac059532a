use Rattle.std.proofs.Common.{◌≡◌, length, rules}
use Rattle.td_world.specs.World.{family_of, size}
use Rattle.td_live.proofs.Finishes.{finishing_none, finishing_next, finishing_last, homes_next}
use Rattle.td_live.proofs.finishing.finish.Goals as goal

pub loop-alloc-init : goal.loop-alloc-init
loop-alloc-init g c =
    record {
      homes = c.requires.homes;
      finishing = finishing_none (family_of c.args.world.now) c.args.books.items c.new-logs.result.items (search rules);
      nobody = λ h. h;
    }

pub loop-alloc-preserved : goal.loop-alloc-preserved
loop-alloc-preserved g c =
    let n = c.finish_next.new in
    let v = c.loop-alloc.invariant in
    record {
      homes = homes_next (size c.loop-alloc.world) (size n.world) c.loop-alloc.books.items n.books.items
          c.in_ok-finish_next.ensures.finished.book c.in_ok-finish_next.ensures.finished.first
          c.in_ok-finish_next.ensures.size v.homes;
      finishing = finishing_next (family_of c.args.world.now) c.args.books.items (family_of c.loop-alloc.world)
          (family_of n.world) c.loop-alloc.logs.items n.logs.items c.loop-alloc.books.items n.books.items v.finishing
          c.in_ok-finish_next.ensures.finished;
      nobody = λ h. c.in_ok-finish_next.ensures.nobody (v.nobody h);
    }

pub returns-clause-finished : goal.returns-clause-finished
returns-clause-finished g c =
    let none : length c.loop-alloc.books.items ≡ 0 = search rules in
    finishing_last (family_of c.args.world.now) c.args.books.items (family_of c.loop-alloc.world)
    c.loop-alloc.logs.items
    c.loop-alloc.books.items none c.loop-alloc.invariant.finishing
