use Rattle.std.proofs.Common.{◌≡◌, take, slice_index, slice_set}
use Rattle.td_store.proofs.vectors.are_same_but_at.Given as goal

abbrev pub invariant-loop-i : goal.invariant-loop-i
invariant-loop-i l = take l.i (slice_set l.numbers l.place (slice_index l.others l.place)) ≡ take l.i l.others
