use Rattle.std.proofs.Common.{◌≡◌, ◌++◌, length}
use Rattle.td_room.specs.Rooms.{editors_of}
use Rattle.td_room.specs.Ending.{others_of}
use Rattle.td_room.proofs.closing.split.Given as goal

abbrev pub invariant-loop-home : goal.invariant-loop-home
invariant-loop-home l = record {
  own : l.own.items ++ editors_of l.home l.editors.items ≡ editors_of l.home l.fn.editors.items;
  others : l.others.items ++ others_of l.home l.editors.items ≡ others_of l.home l.fn.editors.items;
}

abbrev pub decreases-loop-home : goal.decreases-loop-home
decreases-loop-home l = length l.editors.items
