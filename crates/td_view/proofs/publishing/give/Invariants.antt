use Rattle.std.proofs.Common.{length, take, drop, ◌-◌, ◌≡◌, ◌≤◌, ◌+◌}
use Rattle.td_view.specs.Deeds.{deeds_of}
use Rattle.td_view.proofs.publishing.give.Given as goal

abbrev pub invariant-loop-at : goal.invariant-loop-at
invariant-loop-at l =
    (l.press.desk ≡ l.fn.press.desk)
    × (drop l.press.behind l.press.log.items ≡ take l.at (deeds_of l.publishing l.past))
    × (l.at ≤ length l.changes + 1)

abbrev pub decreases-loop-at : goal.decreases-loop-at
decreases-loop-at l = length l.changes - l.at
