use Rattle.std.proofs.Common.{◌≡◌, ◌+◌, take, drop}
use Rattle.td_list.specs.Items.{weight_of}
use Rattle.td_list.proofs.gap.GapBuffer.weight_to.Given as goal

abbrev pub invariant-loop-behind : goal.invariant-loop-behind
invariant-loop-behind l = l.weight ≡ weight_of (take l.place l.self) + weight_of (drop l.behind l.self)
