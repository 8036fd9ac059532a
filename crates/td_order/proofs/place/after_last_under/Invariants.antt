use Rattle.std.proofs.Common.{◌≡◌, ◌≤◌, ◌++◌, List, take, drop}
use Rattle.td_base.specs.Value.{AtomIdValue}
use Rattle.td_order.specs.Under.{is_under_any}
use Rattle.td_order.specs.Place.{put_after_last}
use Rattle.td_order.proofs.place.after_last_under.Given as goal

-- the place after the last so far
abbrev pub invariant-loop-i : goal.invariant-loop-i
invariant-loop-i l = record {
  bound : l.at ≤ l.i;
  place : (ids : List AtomIdValue) → put_after_last (is_under_any l.placed l.tops) ids (take l.i l.list)
      ≡ take l.at l.list ++ (ids ++ drop l.at (take l.i l.list));
}
