use Rattle.std.proofs.Common.{◌≡◌, drop, replicate}
use Rattle.left_right.specs.Sides.{view}
use Rattle.td_view.specs.Values.{new_reader}
use Rattle.td_view.specs.Tied.{IsUngiven}
use Rattle.td_view.proofs.opening.row.Given as goal

abbrev pub invariant-loop : goal.invariant-loop
invariant-loop l =
    (l.press.desk.shown ≡ l.fn.press.desk.shown)
    × (drop l.press.behind l.press.log.items ≡ drop l.fn.press.behind l.fn.press.log.items)
    × IsUngiven l.past (view l.press.desk.place)
    × (l.all.items ≡ replicate l.counter (new_reader l.past.book l.past.log))
    × (l.opener ≡ l.fn.opener)
