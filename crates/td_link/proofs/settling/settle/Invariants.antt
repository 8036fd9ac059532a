use Rattle.std.proofs.Common.{◌≡◌, ◌++◌, true}
use Rattle.std.specs.Arc.{arc_value}
use Rattle.crossbeam_queue.specs.Passes.{view, IsPassOf}
use Rattle.td_link.proofs.settling.settle.Given as goal

abbrev pub invariant-loop : goal.invariant-loop
invariant-loop g l =
    IsPassOf (arc_value l.line) l.pass
    × ((view l.pass).pushes ≡ true)
    × ((view l.pass).pops ≡ true)
    × ((view l.pass).sent ≡ l.fn.tx.sent)
    × ((view l.pass).taken ≡ l.fn.rx.taken ++ l.items.items)
