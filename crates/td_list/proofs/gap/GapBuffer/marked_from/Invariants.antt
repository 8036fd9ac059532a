use Rattle.std.proofs.Common.{◌≡◌, drop}
use Rattle.td_list.specs.Items.{first_marked}
use Rattle.td_list.proofs.gap.GapBuffer.marked_from.Given as goal

abbrev pub invariant-loop-place : goal.invariant-loop-place
invariant-loop-place l = first_marked (drop l.place l.self) ≡ first_marked (drop l.from l.self)
