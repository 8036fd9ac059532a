use Rattle.std.proofs.Common.{◌≡◌, drop}
use Rattle.td_path.specs.SlotPaths.{goes_on}
use Rattle.td_path.proofs.slot_path.pairs_go_on.Given as goal

abbrev pub invariant-loop-q : goal.invariant-loop-q
invariant-loop-q l = goes_on (drop l.q-index l.front) l.bit l.path ≡ goes_on l.front l.bit l.fn.path
