use Rattle.std.proofs.Common.{◌≡◌, false, length}
use Rattle.td_site.specs.Later.{LaterSite}
use Rattle.td_line.specs.Calls.{OnlyLocals}
use Rattle.td_line.proofs.Ending.{AreDone}
use Rattle.td_line.proofs.closing.do_left.Given as goal

abbrev pub invariant-loop-ask : goal.invariant-loop-ask
invariant-loop-ask g l = record {
  late : l.site.late ≡ false;
  later : LaterSite l.fn.site l.site;
  only : OnlyLocals l.fn.site.replica.entries l.site.replica.entries;
  done : AreDone l.fn.site.replica.entries l.fn.given.items l.fn.left l.site.replica.entries l.given.items l.left;
}

abbrev pub decreases-loop-ask : goal.decreases-loop-ask
decreases-loop-ask g l = length l.left
