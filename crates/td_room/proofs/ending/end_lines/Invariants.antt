use Rattle.std.proofs.Common.{◌≡◌, length, false}
use Rattle.td_site.specs.Later.{LaterSite}
use Rattle.td_line.specs.Calls.{OnlyLocals}
use Rattle.td_room.proofs.Lines.{LinesEnd}
use Rattle.td_room.proofs.ending.end_lines.Given as goal

abbrev pub invariant-loop-alloc : goal.invariant-loop-alloc
invariant-loop-alloc g l = record {
  late : l.site.late ≡ false;
  later : LaterSite l.fn.site l.site;
  only : OnlyLocals l.fn.site.replica.entries l.site.replica.entries;
  ends : LinesEnd l.fn.editors.items l.site l.lines.items l.editors.items l.answers.items l.readers.items;
}

abbrev pub decreases-loop-alloc : goal.decreases-loop-alloc
decreases-loop-alloc g l = length l.lines.items
