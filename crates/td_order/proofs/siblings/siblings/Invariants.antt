use Rattle.std.proofs.Common.{◌≡◌, ◌++◌, drop, filter}
use Rattle.td_order.specs.Place.{is_sibling}
use Rattle.td_order.proofs.siblings.siblings.Given as goal

-- what is found and what is to be found
abbrev pub invariant-loop-other : goal.invariant-loop-other
invariant-loop-other l = l.found.items ++ filter (is_sibling l.new) (drop l.other-index l.placed)
    ≡ filter (is_sibling l.new) l.placed
