use Rattle.std.proofs.Common.{◌≡◌, take}
use Rattle.td_identities.specs.Identities.{with_strays}
use Rattle.td_identities.proofs.identities.number_or.Given as goal

abbrev pub invariant-loop-stray : goal.invariant-loop-stray
invariant-loop-stray l = l.number ≡ with_strays (take l.stray-index l.strays) l.id l.fn.other
