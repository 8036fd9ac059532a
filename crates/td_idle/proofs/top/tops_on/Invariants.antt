use Rattle.td_idle.specs.Stable.{stable}
use Rattle.td_idle.specs.Walk.{along, IsListed}
use Rattle.td_idle.proofs.Walked.{Walked}
use Rattle.td_idle.proofs.top.tops_on.Given as goal

abbrev pub invariant-loop-id : goal.invariant-loop-id
invariant-loop-id g l = IsListed (stable l.replica.machine) (along l.bit l.replica.machine.doc) l.ids l.unknown
    → Walked l.replica.machine l.bit l.id-index l.walk l.tops.items
