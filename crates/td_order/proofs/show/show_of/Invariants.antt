use Rattle.std.proofs.Common.{◌≡◌, ◌++◌, drop}
use Rattle.td_order.specs.Show.{show}
use Rattle.td_order.proofs.ShowLemmas.{text_of}
use Rattle.td_order.proofs.show.show_of.Given as goal

-- the text so far, and that of the atoms that are left
abbrev pub invariant-loop-id : goal.invariant-loop-id
invariant-loop-id l = l.text ++ text_of l.ops (drop l.id-index l.id-items) ≡ show l.ops
