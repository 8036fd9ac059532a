use Rattle.std.proofs.Common.{◌≡◌, drop}
use Rattle.td_list.specs.Items.{first_marked}
use Rattle.td_list.proofs.scan.first_marked.Given as goal

abbrev pub invariant-loop-place : goal.invariant-loop-place
invariant-loop-place l = first_marked (drop l.place l.items) ≡ first_marked (drop l.from l.items)
