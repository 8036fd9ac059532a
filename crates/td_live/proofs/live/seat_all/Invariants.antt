use Rattle.std.proofs.Common.{◌≡◌, ◌++◌, length}
use Rattle.std.specs.List.{AllZip}
use Rattle.td_live.specs.Seating.{CanSit, seated}
use Rattle.td_live.proofs.live.seat_all.Given as goal

abbrev pub invariant-loop-alloc : goal.invariant-loop-alloc
invariant-loop-alloc l = record {
  can : AllZip CanSit l.editors.items l.lines.items;
  all : l.desks.items ++ seated l.editors.items l.lines.items ≡ seated l.fn.editors.items l.fn.lines.items;
}

abbrev pub decreases-loop-alloc : goal.decreases-loop-alloc
decreases-loop-alloc l = length l.editors.items
