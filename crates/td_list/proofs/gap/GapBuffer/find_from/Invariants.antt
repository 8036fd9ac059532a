use Rattle.std.proofs.Common.{drop}
use Rattle.td_list.specs.Items.{IsItem}
use Rattle.td_list.proofs.gap.GapBuffer.find_from.Given as goal

abbrev pub invariant-loop-place : goal.invariant-loop-place
invariant-loop-place l = IsItem l.name (drop l.from l.self) → IsItem l.name (drop l.place l.self)
