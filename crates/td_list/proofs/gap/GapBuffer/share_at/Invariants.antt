use Rattle.std.proofs.Common.{◌≡◌, drop}
use Rattle.td_list.specs.Items.{share_at}
use Rattle.td_list.proofs.gap.GapBuffer.share_at.Given as goal

abbrev pub invariant-loop-place : goal.invariant-loop-place
invariant-loop-place l = share_at l.rest (drop l.place l.self) ≡ share_at l.unit l.self
