use Rattle.std.proofs.Common.{◌≡◌, drop}
use Rattle.td_list.specs.Items.{share_at}
use Rattle.td_list.proofs.scan.share_at.Given as goal

abbrev pub invariant-loop-item : goal.invariant-loop-item
invariant-loop-item l = share_at l.rest (drop l.item-index l.items) ≡ share_at l.unit l.items
