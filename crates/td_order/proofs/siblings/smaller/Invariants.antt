use Rattle.std.proofs.Common.{◌≡◌, ◌++◌, drop, filter}
use Rattle.td_order.specs.Place.{is_smaller}
use Rattle.td_order.proofs.siblings.smaller.Given as goal

-- what is found and what is to be found
abbrev pub invariant-loop-other : goal.invariant-loop-other
invariant-loop-other l = l.found.items ++ filter (is_smaller l.new) (drop l.other-index l.others)
    ≡ filter (is_smaller l.new) l.others
