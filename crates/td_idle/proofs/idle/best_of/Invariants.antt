use Rattle.std.proofs.Common.{take}
use Rattle.td_idle.specs.Kept.{IsBestOf}
use Rattle.td_idle.proofs.idle.best_of.Given as goal

abbrev pub invariant-loop-slot : goal.invariant-loop-slot
invariant-loop-slot g l = IsBestOf (g.D.Doc.rows l.doc) (take l.slot-index l.slots) l.best
