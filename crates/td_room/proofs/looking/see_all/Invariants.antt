use Rattle.std.proofs.Common.{length}
use Rattle.td_room.proofs.Looks.{Seeing}
use Rattle.td_room.proofs.looking.see_all.Given as goal

abbrev pub invariant-loop-readers : goal.invariant-loop-readers
invariant-loop-readers g l = Seeing l.told.list l.told.views l.fn.readers.items l.readers.items

abbrev pub decreases-loop-readers : goal.decreases-loop-readers
decreases-loop-readers g l = length l.readers.items
